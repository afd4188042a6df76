-- `line_form::print::put_letter` meets its contract. Assumes nothing.
use Rattle.line_form.proofs.PrintLaws.{put-set, put-put}
use lib.ListN.{set, length-set}
use native.Mathlib.Omega.{arith}
use borrow.Author.Rules.{rules}
use Rattle.line_form.proofs.print.put_letter.Goals as goal

pub returns : goal.returns
returns c = record { put_bytes = put-put (put-set c.args.out.now 0 _ (omega arith)) (put-set (set c.args.out.now 0 _) 1 44 (simp length-set (omega arith))); upper_bound = search rules }

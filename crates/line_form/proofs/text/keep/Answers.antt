-- `line_form::text::keep` meets its contract. Assumes nothing.
use mathlib.Core.Path.{refl}
use Rattle.line_form.proofs.TextLaws.{keeps-room, keeps-full}
use Rattle.line_form.proofs.text.keep.Goals as goal
use Rattle.line_form.proofs.text.keep.Goals.{then-n-lt64, else-n-lt64}

pub returns : goal.returns
returns c = elim c.if-n-lt64.branch [
  | then-n-lt64 w ↦ rw (w.arrays-is) (keeps-room _ _ w.if-n-lt64.true refl w.put.ensures)
  | else-n-lt64 w ↦ rw (w.arrays-is) (keeps-full _ _ w.if-n-lt64.false refl)
]

-- `line_form::print::put_vector` meets its contract. Assumes nothing.
use Rattle.line_form.proofs.PrintLaws.{put-put}
use Rattle.line_form.proofs.print.put_vector.Goals as goal

pub float_to_bits-v : goal.float_to_bits-v
float_to_bits-v c = c.requires.numbers.0

pub float_to_bits-v-2 : goal.float_to_bits-v-2
float_to_bits-v-2 c = c.requires.numbers.1

pub float_to_bits-v-3 : goal.float_to_bits-v-3
float_to_bits-v-3 c = c.requires.numbers.2

pub returns : goal.returns
returns c = put-put c.put_hex-a.ensures.put_bytes (put-put c.put_hex-b.ensures.put_bytes c.put_hex.ensures.put_bytes)

-- Drops and additions, one after the other (request (x)). Definitions only.
use Rattle.std.specs.Prelude.{Bool, true, not, ◌&&◌, List, [], ◌∷◌, Float}
use Rattle.std.specs.Float.Ieee.{lt}
use Rattle.lists.specs.Walk.{every, fold}
use Rattle.corrections_table.specs.Add.{insert_all}
use Rattle.corrections_table.specs.declared.sample.Sample.{Sample}
use Rattle.corrections_query.specs.Query.{since}
use Rattle.corrections_forget.specs.Forget.{forget}

-- samples added one after the other, or those before a time dropped
pub data Event : Type 0 where
  add : List Sample → Event
  drop : Float → Event

-- the table after one event
unfoldable pub happen : List Sample → Event → List Sample
happen t (add ss) = insert_all t ss
happen t (drop time) = forget time t

-- the table after events, one after the other
abbrev pub history : List Sample → List Event → List Sample
history t es = fold happen t es

-- what is added is not earlier than the time; a further drop may be of any time
unfoldable pub not_before : Float → Event → Bool
not_before time (add ss) = every (since time) ss
not_before time (drop other) = true

-- the query time q is not earlier than any drop, nor is an addition earlier than a drop before it
unfoldable pub allowed : Float → List Event → Bool
allowed q [] = true
allowed q (add ss ∷ es) = allowed q es
allowed q (drop time ∷ es) = not (lt q time) && (every (not_before time) es && allowed q es)

-- the additions alone
unfoldable pub undropped : List Event → List Event
undropped [] = []
undropped (add ss ∷ es) = add ss ∷ undropped es
undropped (drop time ∷ es) = undropped es

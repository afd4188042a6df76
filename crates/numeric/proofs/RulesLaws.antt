-- Rules in checking order. Assumes nothing.
use mathlib.Core.Path.{◌≡◌, refl, ap}
use mathlib.Core.List.{List, [], ◌∷◌, ◌++◌}
use mathlib.Core.Bool.{Bool, true, false, cond}
use Rattle.numeric.specs.Rules.{Rule, ruled}
use Rattle.numeric.specs.declared.refusal.Refusal.{Refusal}

-- rules are tested in parts
pub ruled-append : {A : Type 0} (f : Refusal → A) (a : A) (rs ss : List Rule) → ruled f (rs ++ ss) a ≡ ruled f rs (ruled f ss a)
unfolding ruled
ruled-append f a [] ss = refl
ruled-append f a (r ∷ rs) ss = ap (λ x. cond r.applies (f r.refusal) x) (ruled-append f a rs ss)

-- what g makes of a call's answers is the answer of a call that gives those
pub ruled-map : {A B : Type 0} (g : A → B) (f : Refusal → A) (a : A) (rs : List Rule) → g (ruled f rs a) ≡ ruled (λ r. g (f r)) rs (g a)
unfolding ruled
ruled-map g f a [] = refl
ruled-map g f a (r ∷ rs) = go r.applies (ruled-map g f a rs)
  where
    go : (b : Bool) → g (ruled f rs a) ≡ ruled (λ r. g (f r)) rs (g a) → g (cond b (f r.refusal) (ruled f rs a)) ≡ cond b (g (f r.refusal)) (ruled (λ r. g (f r)) rs (g a))
    go true ih = refl
    go false ih = ih

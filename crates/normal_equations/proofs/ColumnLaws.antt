-- Columns of numbers: the list of their rows, and columns that are filled one place after the other. Assumes nothing.
use mathlib.Core.Path.{◌≡◌, refl, sym, ap, ◌∙◌}
use Prim.Native.Nat.{ℕ, zero, suc, ◌+◌, ◌≤◌, ◌<◌}
use native.Mathlib.Nat.{not-suc-le-zero, le_of_suc-le-suc}
use native.Mathlib.Omega.{arith}
use mathlib.Core.List.{List, [], ◌∷◌, map}
use lib.ListN.{length, get_or, set, take, length-set}
use lib.Seq.{take_all, get_or-take, length-take-le}
use lib.Ieee.{Float, nan}
use Rattle.lists.specs.Walk.{places}
use Rattle.lists.proofs.Walk.{places-map, places-take, places-ext}
use Rattle.normal_equations.specs.Steps.{RoundColumns, columns, row_in, rows_in}
use Rattle.normal_equations.specs.declared.row.Row.{Row}
use Rattle.normal_equations.proofs.Sums.{mapped_next}

-- the residuals of the columns' rows
pub residuals-of : (c : RoundColumns) → map (λ (r : Row). r.residual) (rows_in c) ≡ c.residual
residuals-of c =
    places-map (λ (r : Row). r.residual) (row_in c) (length c.residual)
    ∙ places-take c.residual 0 (length c.residual) (omega arith) ∙ take_all (length c.residual) c.residual (omega arith)

-- ---- an array that is filled with what f gives of each element

get_d_map-at : {A B : Type 0} (f : A → B) (xs : List A) (j : ℕ) (d : A) (e : B) → j < length xs → get_or (map f xs) j e ≡ f (get_or xs j d)
get_d_map-at f [] j d e h = absurd (not-suc-le-zero h)
get_d_map-at f (x ∷ xs) zero d e h = refl
get_d_map-at f (x ∷ xs) (suc j) d e h = get_d_map-at f xs j d e (le_of_suc-le-suc h)

-- an element of an array that has been filled
pub filled_at : {A B : Type 0} (f : A → B) (xs : List A) (out : List B) (n j : ℕ) (d : A) (e : B) → n ≤ length xs → j < n → take n out ≡ map f (take n xs) → get_or out j e ≡ f (get_or xs j d)
filled_at f xs out n j d e h l all =
    sym (get_or-take n out j e l) ∙ ap (λ ys. get_or ys j e) all ∙ get_d_map-at f (take n xs) j d e (rw (length-take-le n xs h) l) ∙ ap f (get_or-take n xs j d l)

-- the first j places of a column are what f gives of the first j of xs
pub record Column {A B : Type 0} (f : A → B) (xs : List A) (j : ℕ) (column : List B) : Type 0 where
  pub long : length column ≡ 64
  pub so_far : take j column ≡ map f (take j xs)

module _ {A B : Type 0} (f : A → B) (xs : List A) where
  pub column-start : (column : List B) → length column ≡ 64 → Column f xs 0 column
  column-start column h = record { long = h; so_far = refl }

  pub column-next : (j : ℕ) (column : List B) (d : A) (v : B) → j < 64 → j < length xs → v ≡ f (get_or xs j d) → Column f xs j column → Column f xs (j + 1) (set column j v)
  column-next j column d v b l e h = record { long = length-set column j v ∙ h.long; so_far = mapped_next f xs column d j v (omega (arith, h.long)) l e h.so_far }

-- ---- columns that hold, place by place, the rows that f gives of the first n of xs
module _ {A : Type 0} (f : A → Row) (xs : List A) (d : A) (n : ℕ) (fits : n ≤ length xs) (few : n ≤ 64) (x y z : List Float) (clock : List ℕ) (sigma : List Float) (residual : List ℕ)
    (xs-are : take n x ≡ map (λ a. (f a).unit.x) (take n xs)) (ys-are : take n y ≡ map (λ a. (f a).unit.y) (take n xs)) (zs-are : take n z ≡ map (λ a. (f a).unit.z) (take n xs))
    (clocks-are : take n clock ≡ map (λ a. (f a).clock) (take n xs)) (sigmas-are : take n sigma ≡ map (λ a. (f a).sigma) (take n xs)) (residuals-are : Column (λ a. (f a).residual) xs n residual) where
  abbrev all : RoundColumns
  all = columns x y z clock sigma (take n residual)

  row_is : (k : ℕ) → k < n → row_in all k ≡ f (get_or xs k d)
  row_is k h =
      let ex = filled_at (λ a. (f a).unit.x) xs x n k d nan fits h xs-are in
      let ey = filled_at (λ a. (f a).unit.y) xs y n k d nan fits h ys-are in
      let ez = filled_at (λ a. (f a).unit.z) xs z n k d nan fits h zs-are in
      let ec = filled_at (λ a. (f a).clock) xs clock n k d 0 fits h clocks-are in
      let es = filled_at (λ a. (f a).sigma) xs sigma n k d nan fits h sigmas-are in
      let er = get_or-take n residual k 0 h ∙ filled_at (λ a. (f a).residual) xs residual n k d 0 fits h residuals-are.so_far in
      rw (ex, ey, ez, ec, es, er)

  pub rows_are : rows_in all ≡ map f (take n xs)
  rows_are =
      let e : length (take n residual) ≡ n = length-take-le n residual (omega (arith, residuals-are.long)) in
      ap (places (row_in all)) e ∙ places-ext (row_in all) (λ k. f (get_or xs k d)) n row_is ∙ sym (places-map f (λ k. get_or xs k d) n) ∙ ap (map f) (places-take xs d n fits)

-- The carriers that are certified: what taking the others out leaves as it was. Assumes nothing.
use mathlib.Core.Path.{◌≡◌, refl, sym, ap, ap₂, ◌∙◌, fun_ext}
use mathlib.Core.Bool.{Bool, true, false, cond, ◌&&◌, ◌||◌}
use mathlib.Core.List.{List, [], ◌∷◌, ◌++◌}
use Prim.Native.Nat.{ℕ, ◌≤◌}
use native.Mathlib.Omega.{arith}
use lib.Dec.{eqb}
use borrow.Author.Tests.{eqb-true}
use lib.ListN.{length}
use lib.Seq.{take_all}
use lib.Ieee.{Float, le}
use Rattle.lists.specs.Walk.{every, first, collect}
use Rattle.lists.proofs.Walk.{and_both}
use Rattle.numeric.specs.declared.vec3.Vec3.{Vec3}
use Rattle.records.specs.Record.{keep, counted_carriers, usable, same}
use Rattle.records.specs.City.{certified, certified_of, looked}
use Rattle.records.specs.Pair.{pair_of, first_pair, pair_at, pairs_of}
use Rattle.records.specs.declared.record.Carrier.{Carrier}
use Rattle.records.specs.declared.record.Epoch.{Epoch}
use Rattle.records.specs.declared.pair.Pair.{Pair}
use Rattle.records.proofs.KeepLaws.{keep-few, collect-kept}
use Rattle.records.specs.declared.pair.Profile.{Profile}
use Rattle.records.specs.declared.pair.Profile.TheVariants.{General, City}
use Rattle.tdcp.specs.City.{certified_epoch}

-- the counted carriers of what is left
pub counted-left : (band : ℕ) (e : Epoch) → counted_carriers (certified_epoch band e) ≡ certified_of band (counted_carriers e)
counted-left band e = take_all (length (certified_of band (counted_carriers e))) (certified_of band (counted_carriers e)) (omega arith)

-- no more than were counted
pub left-few : (band : ℕ) (cs : List Carrier) → length (certified_of band cs) ≤ length cs
unfolding certified_of
left-few band cs = keep-few (certified band) cs

-- a test that all pass, those left pass
pub left-every : (test : Carrier → Bool) (band : ℕ) (cs : List Carrier) → every test cs ≡ true → every test (certified_of band cs) ≡ true
unfolding certified_of collect every
left-every test band [] e = refl
left-every test band (c ∷ cs) e =
    let both = and_both (test c) (every test cs) e in
    go (certified band c) both.0 (left-every test band cs both.1)
  where
    go : (b : Bool) → test c ≡ true → every test (collect (keep (certified band)) cs) ≡ true → every test (cond b (c ∷ []) [] ++ collect (keep (certified band)) cs) ≡ true
    go true h r = rw (h, r)
    go false h r = r

-- ---- filtering the current epoch alone would do

-- one signal: certified both, or neither
alike : (band : ℕ) (p c : Carrier) → same p c ≡ true → certified band p ≡ certified band c
unfolding same certified
alike band p c e =
    let first = and_both (eqb p.constellation c.constellation && eqb p.svid c.svid) (eqb p.band c.band) e in
    let constellations = eqb-true p.constellation c.constellation (and_both (eqb p.constellation c.constellation) (eqb p.svid c.svid) first.0).0 in
    let bands = eqb-true p.band c.band first.1 in
    ap₂ (λ (g b : ℕ). (eqb g 1 || eqb g 6) && eqb b band) constellations bands

module _ (band : ℕ) (c : Carrier) (is : certified band c ≡ true) where
  partner_left : (f : Carrier → List Pair) (ps : List Carrier) → first (λ p. same p c && usable p) f [] (certified_of band ps) ≡ first (λ p. same p c && usable p) f [] ps
  unfolding certified_of collect first
  partner_left f [] = refl
  partner_left f (p ∷ ps) = go (certified band p) refl (same p c) refl (partner_left f ps)
    where
      none : {a : List Pair} → certified band p ≡ false → same p c ≡ true → a ≡ []
      none h s = absurd (let e = alike band p c s in let z : ◌≡◌ {A = ℕ} 0 1 = cc in omega arith)

      go : (b : Bool) → certified band p ≡ b → (s : Bool) → same p c ≡ s
          → first (λ p. same p c && usable p) f [] (collect (keep (certified band)) ps) ≡ first (λ p. same p c && usable p) f [] ps
          → first (λ p. same p c && usable p) f [] (cond b (p ∷ []) [] ++ collect (keep (certified band)) ps) ≡ cond (same p c && usable p) (f p) (first (λ p. same p c && usable p) f [] ps)
      go true h s t e = ap (cond (same p c && usable p) (f p)) e
      go false h true t e = absurd (let q = alike band p c t in let z : ◌≡◌ {A = ℕ} 0 1 = cc in omega arith)
      go false h false t e = e ∙ sym (ap (λ (b : Bool). cond (b && usable p) (f p) (first (λ p. same p c && usable p) f [] ps)) t)

  pair_left : (receiver : Vec3) (mask dt : Float) (ps : List Carrier) → pair_at receiver mask dt (certified_of band ps) c ≡ pair_at receiver mask dt ps c
  unfolding pair_at first_pair
  pair_left receiver mask dt ps = ap (λ (q : List Pair). cond (usable c && le mask c.elevation) q []) (partner_left (λ p. pair_of receiver dt c p ∷ []) ps)

-- THE LEMMA: the pairs of the two epochs with the others taken out are those with the others taken out of the current one alone
pub current-alone : (receiver : Vec3) (mask dt : Float) (band : ℕ) (previous current : List Carrier) → pairs_of receiver mask dt (certified_of band previous) (certified_of band current) ≡ pairs_of receiver mask dt previous (certified_of band current)
unfolding pairs_of certified_of
current-alone receiver mask dt band previous current =
    collect-kept (pair_at receiver mask dt (collect (keep (certified band)) previous)) (certified band) current
    ∙ ap (λ (f : Carrier → List Pair). collect f current) (fun_ext each)
    ∙ sym (collect-kept (pair_at receiver mask dt previous) (certified band) current)
  where
    go : (c : Carrier) (b : Bool) → certified band c ≡ b → cond b (pair_at receiver mask dt (certified_of band previous) c) [] ≡ cond b (pair_at receiver mask dt previous c) []
    go c true h = pair_left band c h receiver mask dt previous
    go c false h = refl

    each : (c : Carrier) → cond (certified band c) (pair_at receiver mask dt (certified_of band previous) c) [] ≡ cond (certified band c) (pair_at receiver mask dt previous c) []
    each c = go c (certified band c) refl

-- in either profile
pub looked-alone : (profile : Profile) (receiver : Vec3) (mask dt : Float) (previous current : List Carrier)
    → pairs_of receiver mask dt previous (looked profile current) ≡ pairs_of receiver mask dt (looked profile previous) (looked profile current)
looked-alone General receiver mask dt previous current = refl
looked-alone (City band) receiver mask dt previous current = sym (current-alone receiver mask dt band previous current)

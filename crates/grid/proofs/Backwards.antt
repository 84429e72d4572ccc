-- The last number below a bound that passes a test, found by a chain that counts down.
use mathlib.Core.Path.{◌≡◌, sym, ap, ◌∙◌}
use mathlib.Core.Bool.{Bool, true, false, cond}
use mathlib.Core.List.{List, [], ◌∷◌}
use Prim.Native.Nat.{ℕ, suc, ◌+◌, ◌-◌, ◌<◌}
use native.Mathlib.Omega.{arith}
use denote.Param.Members.{Mut}
use denote.Ref.{Bor}
use Rattle.std.specs.Fn.{CalledAt}
use Rattle.std.specs.Iterator.{Yields, YieldsThen}
use Rattle.std.specs.List.{FoldsTo}
use Rattle.std.specs.Prelude.{Option, None, Some, MatchOption, IfSome, unwrap_or}
use Rattle.std.specs.declared.iter.Rev.{Rev}
use Rattle.std.specs.declared.ops.Range.{Range}
use Rattle.maths.specs.Tests.{last}

-- what `next` of `(a..b).rev()` says
abbrev pub down : Rev (Range ℕ) → Option ℕ → Rev (Range ℕ) → Type 0
down s r t = (t.iter.start ≡ s.iter.start)
    × MatchOption r ((s.iter.end - s.iter.start ≡ 0) × (t.iter.end ≡ s.iter.end))
    (λ x. (0 < s.iter.end - s.iter.start) × (x ≡ t.iter.end) × (s.iter.end ≡ t.iter.end + 1))

-- f tests a number by p
module _ {F : Type 0} (g : Mut F (Bor ℕ × Unit {0}) Bool) (f : F) (p : ℕ → Bool)
    (told : (x : ℕ) (b : Bool) (h : F) → CalledAt g f x b h → (h ≡ f) × (b ≡ p x)) where
  -- the numbers that fail are passed over
  passed : (xs : List ℕ) (s t : Rev (Range ℕ)) (j : F) → s.iter.start ≡ 0 → Yields down s xs t → FoldsTo (λ e x q. CalledAt g e x false q) f xs j
      → (t.iter.start ≡ 0) × (j ≡ f) × (last s.iter.end p ≡ last t.iter.end p)
  unfolding last
  passed [] s t j z y e = (rw y at z, sym e, ap (λ s. last s.iter.end p) y)
  passed (x ∷ xs) s t j z y e =
      let one = told x false e.0 e.1 in
      let more = passed xs y.0 t j (y.1.0 ∙ z) y.2 (rw one.0 at e.2) in
      let next : s.iter.end ≡ suc x = omega (arith, y.1.1) in
      let over : last s.iter.end p ≡ last x p = ap (λ n. last n p) next ∙ ap (λ t. cond t x (last x p)) (sym one.1) in
      (more.0, more.1, over ∙ ap (λ n. last n p) y.1.1.1 ∙ more.2)

  -- the search ends
  ended : (r : Option ℕ) (t u : Rev (Range ℕ)) (j : F) → t.iter.start ≡ 0 → down t r u → j ≡ f
      → IfSome r (λ x. (h : F) × CalledAt g j x true h) → unwrap_or r 0 ≡ last t.iter.end p
  unfolding last
  ended None t u j z st q m = let none : t.iter.end ≡ 0 = omega (arith, st.1.0) in rw none
  ended (Some x) t u j z st q m =
      let one = told x true m.0 (rw q at m.1) in
      let next : t.iter.end ≡ suc x = omega (arith, st.1) in
      rw (next, ← one.1)

  pub found : (s u : Rev (Range ℕ)) (r : Option ℕ) (n : ℕ) → s.iter ≡ record { start = 0; end = n }
      → (xs : List ℕ) × (j : F) × YieldsThen down s xs r u × FoldsTo (λ e x q. CalledAt g e x false q) f xs j
      × IfSome r (λ x. (h : F) × CalledAt g j x true h)
      → unwrap_or r 0 ≡ last n p
  found s u r n from ran =
      let w = passed ran.0 s ran.2.0 ran.1 (ap (λ i. i.start) from) ran.2.1 ran.3 in
      ended r ran.2.0 u ran.1 w.0 ran.2.2 w.1 ran.4 ∙ sym w.2 ∙ ap (λ i. last i.end p) from

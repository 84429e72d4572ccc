-- A walk that follows a ring is that ring, from its lowest corner on.
use mathlib.Core.Path.{◌≡◌, refl, sym, ap, ◌∙◌}
use mathlib.Core.Logic.{◌≢◌}
use mathlib.Core.Bool.{Bool, true, not, ◌&&◌}
use Prim.Native.Nat.{ℕ, zero, suc, ◌+◌, ◌-◌, ◌<◌, ◌≤◌}
use native.Mathlib.Omega.{arith}
use borrow.Author.Tests.{ltb-true, lt-ltb, le-leb, eq-eqb, ne_eqb, eqb-true, eqb-false, not-true, not-false}
use lib.Dec.{eqb, ltb, leb}
use lib.ListN.{length, take, drop, length-append, length-drop, get_or-append}
use lib.Seq.{get_or-drop, get_or-take, get_or-append-add, length-take-le}
use Rattle.maths.specs.Tests.{all}
use Rattle.maths.proofs.Cases.{lt_or, bool_or, no_eq, and_both}
use Rattle.maths.proofs.Tests.{all_of, all-at, all-false}
use Rattle.off.specs.Plain.{Ring}
use Rattle.off.specs.Rings.{corner_at, next_at, corners_below, distinct, is_ring, turned_to, SameRing}
use Rattle.off.specs.Exporting.{list_of, lowest_from, start_of, steps_from, walked, closes_up}
use Rattle.off.proofs.sewing.RingSides.{next_or, corner-below, next-below, ring_long, ring-short, corners-apart}
use Rattle.off.proofs.Rounds.Listed.{listed-length, listed_at, same_list}

-- the lowest number that passes p
pub record Lowest (a n : ℕ) (p : ℕ → Bool) (m : ℕ) : Type 0 where
  pub there : m < a + n
  pub passes : p m ≡ true
  pub least : (i : ℕ) → a ≤ i → p i ≡ true → m ≤ i

pub lowest_is : (n a : ℕ) (p : ℕ → Bool) (i : ℕ) → a ≤ i → i < a + n → p i ≡ true → Lowest a n p (lowest_from n a p)
unfolding lowest_from
lowest_is zero a p i l h e = absurd (omega arith)
lowest_is (suc n) a p i l h e = bool_or (p a)
    (λ t. rw t (record { there = omega arith; passes = t; least = λ i l e. l }))
    (λ t.
    let other : (i : ℕ) → p i ≡ true → i ≢ a = λ i e q. no_eq (sym t ∙ ap p (sym q) ∙ e) in
    let apart = other i e in
    let L = lowest_is n (suc a) p i (omega arith) (omega arith) e in
    rw t (record {
      there = omega (arith, L.there);
      passes = L.passes;
      least = λ i l e. let apart = other i e in L.least i (omega arith) e;
    }))

-- corners that are told apart by their places are distinct
pub distinct_of : (r : Ring) → ((k l : ℕ) → k < l → l < length r → corner_at r k ≢ corner_at r l) → distinct r ≡ true
unfolding distinct
distinct_of r h = all_of (length r) (λ l i. all_of l (λ k j. ap not (ne_eqb (corner_at r k) (corner_at r l) (h k l j i))))

-- from each corner of the ring one goes to the corner after it, and from any other number nowhere
pub record Along (next : ℕ → ℕ) (r : Ring) : Type 0 where
  pub ring : is_ring r ≡ true
  pub low : corners_below 96 r ≡ true
  pub goes : (l : ℕ) → l < length r → next (corner_at r l) ≡ next_at r l
  pub off : (a : ℕ) → ((l : ℕ) → l < length r → corner_at r l ≢ a) → 96 ≤ next a

-- a number is a corner of the ring, or not
pub corner_or : (r : Ring) (a : ℕ) {X : Type 0} → ((l : ℕ) → l < length r → corner_at r l ≡ a → X) → (((l : ℕ) → l < length r → corner_at r l ≢ a) → X) → X
corner_or r a on off =
    let p : ℕ → Bool = λ l. not (eqb (corner_at r l) a) in
    bool_or (all (length r) p)
    (λ e. off (λ l h. eqb-false (corner_at r l) a (not-true (eqb (corner_at r l) a) (all-at (length r) p e l h))))
    (λ e. let f = all-false (length r) p e in on f.0 f.1 (eqb-true (corner_at r f.0) a (not-false (eqb (corner_at r f.0) a) f.2)))

-- where the ring begins that is walked
pub record Start (next : ℕ → ℕ) (r : Ring) : Type 0 where
  pub place : ℕ
  pub inside : place < length r
  pub is : corner_at r place ≡ start_of next
  pub lowest : (l : ℕ) → l < length r → start_of next ≤ corner_at r l

module _ {next : ℕ → ℕ} {r : Ring} (A : Along next r) where
  leaves : (l : ℕ) → l < length r → ltb (next (corner_at r l)) 96 ≡ true
  leaves l h = rw (A.goes l h) (lt-ltb (next_at r l) 96 (next-below r A.low l h))

  first : Lowest 0 96 (λ a. ltb (next a) 96) (start_of next)
  unfolding start_of
  first =
      let some : 0 < length r = omega (arith, ring_long r A.ring) in
      lowest_is 96 0 (λ a. ltb (next a) 96) (corner_at r 0) (omega arith) (corner-below r A.low 0 some) (leaves 0 some)

  pub start : Start next r
  start = corner_or r (start_of next)
      (λ l h e. record { place = l; inside = h; is = e; lowest = λ k i. first.least (corner_at r k) (omega arith) (leaves k i) })
      (λ off. absurd (omega (arith, A.off (start_of next) off, ltb-true (next (start_of next)) 96 first.passes)))

  module _ (k : ℕ) (inside : k < length r) where
    -- m is the place l steps after place k
    steps_at : (l m : ℕ) → l ≤ length r → m < length r → (k + l < length r → m ≡ k + l) → (length r ≤ k + l → m + length r ≡ k + l) →
        steps_from next (corner_at r k) l ≡ corner_at r m
    unfolding steps_from
    steps_at zero m h i near past = ap (corner_at r) (sym (near (omega arith) ∙ omega arith))
    steps_at (suc l) m h i near past = lt_or (k + l) (length r)
        (λ q.
        rw (steps_at l (k + l) (omega arith) q (λ _. refl) (λ o. absurd (omega arith)), A.goes (k + l) q)
        (next_or r (k + l)
        (λ e s. s ∙ ap (corner_at r) (omega (arith, past (omega arith))))
        (λ e s. s ∙ ap (corner_at r) (omega (arith, near (omega arith))))))
        (λ q.
        let before : k + l - length r < length r = omega arith in
        rw (steps_at l (k + l - length r) (omega arith) before (λ o. absurd (omega arith)) (λ _. omega arith), A.goes (k + l - length r) before)
        (next_or r (k + l - length r)
        (λ e s. absurd (omega arith))
        (λ e s. s ∙ ap (corner_at r) (omega (arith, past (omega arith))))))

    -- corner l of the ring that starts at place k
    turned_at : (l : ℕ) → l < length r → corner_at (turned_to k r) l ≡ steps_from next (corner_at r k) l
    turned_at l h =
        let size : length (drop k r) ≡ length r - k = length-drop k r in
        lt_or (k + l) (length r)
        (λ q.
        get_or-append (drop k r) (take k r) 0 l (omega arith) ∙ get_or-drop k r l 0
        ∙ sym (steps_at l (k + l) (omega arith) q (λ _. refl) (λ o. absurd (omega arith))))
        (λ q.
        let again = k + l - length r in
        let place : l ≡ length (drop k r) + again = omega arith in
        ap (corner_at (turned_to k r)) place ∙ get_or-append-add (drop k r) (take k r) again 0 ∙ get_or-take k r again 0 (omega arith)
        ∙ sym (steps_at l (k + l - length r) (omega arith) (omega arith) (λ o. absurd (omega arith)) (λ _. omega arith)))

    turned_length : length (turned_to k r) ≡ length r
    turned_length = rw (length-append, length-drop k r, length-take-le k r (omega arith)) (omega arith)

    -- two corners of the walk
    steps_apart : (l l' : ℕ) → l < l' → l' < length r → steps_from next (corner_at r k) l ≢ steps_from next (corner_at r k) l'
    steps_apart l l' h i e =
        let same : (m m' : ℕ) → m < length r → m' < length r → corner_at r m ≡ corner_at r m' → m ≡ m' = corners-apart r A.ring in
        lt_or (k + l) (length r)
        (λ q.
        let a = steps_at l (k + l) (omega arith) q (λ _. refl) (λ o. absurd (omega arith)) in
        lt_or (k + l') (length r)
        (λ q'. omega (arith, same (k + l) (k + l') q q' (sym a ∙ e ∙ steps_at l' (k + l') (omega arith) q' (λ _. refl) (λ o. absurd (omega arith)))))
        (λ q'. omega (
          arith,
          same (k + l) (k + l' - length r) q (omega arith)
              (sym a ∙ e ∙ steps_at l' (k + l' - length r) (omega arith) (omega arith) (λ o. absurd (omega arith)) (λ _. omega arith)),
        )))
        (λ q.
        let a = steps_at l (k + l - length r) (omega arith) (omega arith) (λ o. absurd (omega arith)) (λ _. omega arith) in
        omega (
          arith,
          same (k + l - length r) (k + l' - length r) (omega arith) (omega arith)
              (sym a ∙ e ∙ steps_at l' (k + l' - length r) (omega arith) (omega arith) (λ o. absurd (omega arith)) (λ _. omega arith)),
        ))

  abbrev steps : ℕ → ℕ
  steps = steps_from next (start_of next)

  -- the walk is the ring
  pub walk_turned : walked next (length r) ≡ turned_to start.place r
  unfolding walked
  walk_turned =
      let S = start in
      same_list _ _ 0 (listed-length (length r) steps ∙ sym (turned_length S.place S.inside)) (λ l h.
      let i : l < length r = omega (arith, listed-length (length r) steps) in
      listed_at (length r) steps l 0 i ∙ ap (λ a. steps_from next a l) (sym S.is) ∙ sym (turned_at S.place S.inside l i))

  pub walk_same : SameRing r (walked next (length r))
  walk_same = record { start = start.place; is = walk_turned }

  walk_ring : is_ring (walked next (length r)) ≡ true
  unfolding walked is_ring
  walk_ring =
      let S = start in
      let long = listed-length (length r) steps in
      and_both {a = leb 3 (length (list_of (length r) steps)) && leb (length (list_of (length r) steps)) 96}
      (rw long (and_both (le-leb 3 (length r) (ring_long r A.ring)) (le-leb (length r) 96 (ring-short r A.ring))))
      (distinct_of (list_of (length r) steps) (λ l l' h i.
      let j : l' < length r = omega arith in
      rw (listed_at (length r) steps l 0 (omega arith), listed_at (length r) steps l' 0 j, ← S.is)
      (steps_apart S.place S.inside l l' h j)))

  pub walk_closes : closes_up next (length r) ≡ true
  unfolding closes_up
  walk_closes =
      let S = start in
      let back : steps (length r) ≡ start_of next =
      rw (← S.is) (steps_at S.place S.inside (length r) S.place (omega arith) S.inside (λ o. absurd (omega arith)) (λ _. omega arith)) in
      and_both (and_both (lt-ltb (start_of next) 96 first.there) (eq-eqb (steps (length r)) (start_of next) back)) walk_ring

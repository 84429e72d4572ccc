-- Reading undoes writing: an exported text is a plain OFF text that says what was exported.
use mathlib.Core.Path.{◌≡◌, refl, sym, ap, ◌∙◌}
use mathlib.Core.Bool.{true}
use mathlib.Core.List.{List, [], ◌∷◌, ◌++◌, append_assoc, append-nil}
use Prim.Native.Nat.{ℕ, zero, suc, ◌+◌, ◌*◌, ◌<◌, ◌≤◌}
use native.Mathlib.Omega.{arith}
use borrow.Author.Tests.{le-leb}
use lib.IntN.{ℤ, pos, nat_abs}
use lib.ListN.{length, get_or}
use Rattle.maths.specs.Sums.{join}
use Rattle.maths.specs.Repeat.{repeat}
use Rattle.maths.proofs.Repeat.{repeat-last}
use Rattle.maths.proofs.Sums.{join-zero, join-suc, join_same}
use Rattle.rules.specs.Printed.{line}
use Rattle.off.specs.Words.{Text, Found, none, found, after_found, is_blank, word_ends, natural, farthest, coordinate, keyword_here, keyword, skipped}
use Rattle.off.specs.Plain.{Ring, Plain, one_more, all_found, several, ring, cell_count, is_over, read_off}
use Rattle.off.specs.Exporting.{list_of, number, signed, corner_line, ring_line, head_lines, write_off}
use Rattle.off.proofs.Rounds.Listed.{listed-length, listed_at, same_list}
use Rattle.off.proofs.Laws.WordsRead.{natural_read, coordinate_read}

-- what is found first decides what is found in all
after-found : {A : Type 0} {l : List A} {u : Text} (w : Found A) {go go' : A → Text → Found (List A)} {r : Found (List A)} →
    ((y : A) (t : Text) → go y t ≡ found l u → go' y t ≡ r) → after_found w none go ≡ found l u → after_found w none go' ≡ r
after-found none h e = let z : ◌≡◌ {A = ℕ} 0 1 = cc in absurd (omega arith)
after-found (found y t) h e = h y t e

same_pair : {A : Type 0} {l : List A} {u : Text} (x : List A × Text) → all_found x ≡ found l u → x ≡ (l, u)
same_pair {l} {u} x e = let p : x.0 ≡ l = cc in let q : x.1 ≡ u = cc in λ i. (p i, q i)

module _ {A : Type 0} (one : Text → Found A) where
  -- what follows after n things are found
  found-on : (n : ℕ) (x : List A × Text) (done : List A × Text → Found (List A)) (l : List A) (u : Text) →
      repeat (one_more one) all_found n x ≡ found l u → repeat (one_more one) done n x ≡ done (l, u)
  unfolding repeat one_more
  found-on zero x done l u e = ap done (same_pair x e)
  found-on (suc n) x done l u e = after-found (one x.1) (λ y t. found-on n (x.0 ++ (y ∷ []), t) done l u) e

  several-none : (t : Text) → several one 0 t ≡ found [] t
  unfolding several repeat
  several-none t = refl

  -- one thing more
  several_more : (n : ℕ) (t u w : Text) (l : List A) (y : A) → several one n t ≡ found l u → one u ≡ found y w → several one (suc n) t ≡ found (l ++ (y ∷ [])) w
  unfolding several one_more
  several_more n t u w l y e f = repeat-last (one_more one) all_found n ([], t) ∙ found-on n ([], t) (λ y. one_more one y all_found) l u e ∙ rw f

-- a list is the list of its elements
relisted : {A : Type 0} (l : List A) (d : A) {n : ℕ} → length l ≡ n → list_of n (λ i. get_or l i d) ≡ l
relisted l d {n} e = same_list _ l d (listed-length n (λ i. get_or l i d) ∙ sym e)
    (λ i h. listed_at n (λ i. get_or l i d) i d (omega (arith, listed-length n (λ i. get_or l i d))))

-- a blank or a line's end
blank : is_blank 0x20 ≡ true
unfolding is_blank
blank = refl

line-ends : is_blank 0x0a ≡ true
unfolding is_blank
line-ends = refl

blank-ends : (t : Text) → word_ends (0x20 ∷ t) ≡ true
unfolding word_ends
blank-ends t = blank

line-ends_word : (t : Text) → word_ends (0x0a ∷ t) ≡ true
unfolding word_ends
line-ends_word t = line-ends

-- the words of a line, a blank before each but the first
corner_words : List ℤ → ℕ → Text
corner_words c i = signed (get_or c (3 * i) (pos 0)) ++ (0x20 ∷ (signed (get_or c (3 * i + 1) (pos 0)) ++ (0x20 ∷ signed (get_or c (3 * i + 2) (pos 0)))))

ring_words : Ring → Text
ring_words r = number (length r) ++ join (length r) (λ l. 0x20 ∷ number (get_or r l 0))

-- lines that end, and lines that begin with a line's end
lines_shift : (n : ℕ) (words : ℕ → Text) (t : Text) → 0x0a ∷ (join n (λ i. words i ++ line) ++ t) ≡ join n (λ i. 0x0a ∷ words i) ++ (0x0a ∷ t)
lines_shift zero words t = rw (join-zero (λ i. words i ++ line), join-zero (λ i. 0x0a ∷ words i))
lines_shift (suc n) words t =
    rw (join-suc n (λ i. words i ++ line), join-suc n (λ i. 0x0a ∷ words i))
    (simp append_assoc (lines_shift n words (words n ++ (0x0a ∷ t))))

corner-then : (x y z u : Text) → (x ++ (0x20 ∷ (y ++ (0x20 ∷ z)))) ++ u ≡ x ++ (0x20 ∷ (y ++ (0x20 ∷ (z ++ u))))
corner-then x y z u = simp append_assoc

-- the corners of a text
corners_read : (n : ℕ) (c : List ℤ) (u : Text) → ((i : ℕ) → i < 3 * n → nat_abs (get_or c i (pos 0)) ≤ farthest) → word_ends u ≡ true →
    several coordinate (3 * n) (join n (λ i. 0x0a ∷ corner_words c i) ++ u) ≡ found (list_of (3 * n) (λ i. get_or c i (pos 0))) u
unfolding corner_words
corners_read zero c u near e = rw (join-zero (λ i. 0x0a ∷ corner_words c i), join-zero (λ i. get_or c i (pos 0) ∷ [])) (several-none coordinate u)
corners_read (suc n) c u near e =
    let f : ℕ → ℤ = λ i. get_or c i (pos 0) in
    let k = 3 * n in
    let three : 3 * suc n ≡ suc (suc (suc (3 * n))) = omega arith in
    let one : 3 * n + 1 ≡ suc (3 * n) = omega arith in
    let two : 3 * n + 2 ≡ suc (suc (3 * n)) = omega arith in
    let last : Text = 0x20 ∷ (signed (f (suc (suc k))) ++ u) in
    let rest : Text = 0x20 ∷ (signed (f (suc k)) ++ last) in
    let here : Text = 0x0a ∷ (signed (f k) ++ rest) in
    let t : Text = join n (λ i. 0x0a ∷ corner_words c i) ++ here in
    let before = corners_read n c here (λ i h. near i (omega arith)) (line-ends_word _) in
    let x = several_more coordinate k t here rest _ (f k) before (coordinate_read (f k) rest 0x0a line-ends (near k (omega arith)) (blank-ends _)) in
    let y = several_more coordinate (suc k) t rest last _ (f (suc k)) x (coordinate_read (f (suc k)) last 0x20 blank (near (suc k) (omega arith)) (blank-ends _)) in
    let z = several_more coordinate (suc (suc k)) t last u _ (f (suc (suc k))) y
    (coordinate_read (f (suc (suc k))) u 0x20 blank (near (suc (suc k)) (omega arith)) e) in
    let g : ℕ → List ℤ = λ i. f i ∷ [] in
    rw (
      join-suc n (λ i. 0x0a ∷ corner_words c i),
      append_assoc (join n (λ i. 0x0a ∷ corner_words c i)) (0x0a ∷ corner_words c n) u,
      corner-then (signed (f k)) (signed (f (3 * n + 1))) (signed (f (3 * n + 2))) u,
      three,
      one,
      two,
      join-suc (suc (suc k)) g,
      join-suc (suc k) g,
      join-suc k g,
    ) z

-- the corners of a ring
ring-corners : (n : ℕ) (r : Ring) (u : Text) → ((l : ℕ) → l < n → get_or r l 0 < 10_000_000) → word_ends u ≡ true →
    several natural n (join n (λ l. 0x20 ∷ number (get_or r l 0)) ++ u) ≡ found (list_of n (λ l. get_or r l 0)) u
ring-corners zero r u low e = rw (join-zero (λ l. 0x20 ∷ number (get_or r l 0)), join-zero (λ l. get_or r l 0 ∷ [])) (several-none natural u)
ring-corners (suc n) r u low e =
    let c = get_or r n 0 in
    let here : Text = 0x20 ∷ (number c ++ u) in
    rw (join-suc n (λ l. 0x20 ∷ number (get_or r l 0)), join-suc n (λ l. get_or r l 0 ∷ []), append_assoc (join n (λ l. 0x20 ∷ number (get_or r l 0))) (0x20 ∷ number c) u)
    (several_more natural n _ here u _ c (ring-corners n r here (λ l h. low l (omega arith)) (blank-ends _))
    (natural_read c u 0x20 blank (low n (omega arith)) e))

-- the numbers of a ring are small enough to be read
pub record Short (r : Ring) : Type 0 where
  pub long : length r < 10_000_000
  pub low : (l : ℕ) → l < length r → get_or r l 0 < 10_000_000

spaced-ends : (n : ℕ) (r : Ring) (u : Text) → word_ends u ≡ true → word_ends (join n (λ l. 0x20 ∷ number (get_or r l 0)) ++ u) ≡ true
spaced-ends zero r u e = rw (join-zero (λ l. 0x20 ∷ number (get_or r l 0))) e
spaced-ends (suc n) r u e =
    rw (join-suc n (λ l. 0x20 ∷ number (get_or r l 0)), append_assoc (join n (λ l. 0x20 ∷ number (get_or r l 0))) (0x20 ∷ number (get_or r n 0)) u)
    (spaced-ends n r (0x20 ∷ (number (get_or r n 0) ++ u)) (blank-ends _))

ring_read : (r : Ring) (u : Text) → Short r → word_ends u ≡ true → ring (0x0a ∷ (ring_words r ++ u)) ≡ found r u
unfolding ring ring_words
ring_read r u S e =
    let spaced = join (length r) (λ l. 0x20 ∷ number (get_or r l 0)) in
    rw (append_assoc (number (length r)) spaced u, natural_read (length r) (spaced ++ u) 0x0a line-ends S.long (spaced-ends (length r) r u e))
    (ring-corners (length r) r u S.low e ∙ ap (λ r. found r u) (relisted r 0 refl))

rings_read : (n : ℕ) (f : ℕ → Ring) (u : Text) → ((k : ℕ) → k < n → Short (f k)) → word_ends u ≡ true →
    several ring n (join n (λ k. 0x0a ∷ ring_words (f k)) ++ u) ≡ found (list_of n f) u
rings_read zero f u S e = rw (join-zero (λ k. 0x0a ∷ ring_words (f k)), join-zero (λ k. f k ∷ [])) (several-none ring u)
rings_read (suc n) f u S e =
    let here : Text = 0x0a ∷ (ring_words (f n) ++ u) in
    rw (join-suc n (λ k. 0x0a ∷ ring_words (f k)), join-suc n (λ k. f k ∷ []), append_assoc (join n (λ k. 0x0a ∷ ring_words (f k))) (0x0a ∷ ring_words (f n)) u)
    (several_more ring n _ here u _ (f n) (rings_read n f here (λ k h. S k (omega arith)) (line-ends_word _)) (ring_read (f n) u (S n (omega arith)) e))

-- what can be said in a plain OFF text
pub record Sayable (seams : ℕ) (P : Plain) : Type 0 where
  pub few : P.corners ≤ 96
  pub few-rings : length P.rings ≤ 96
  pub few-seams : seams < 10_000_000
  pub long : length P.coordinates ≡ 3 * P.corners
  pub near : (i : ℕ) → i < 3 * P.corners → nat_abs (get_or P.coordinates i (pos 0)) ≤ farthest
  pub short : (k : ℕ) → k < length P.rings → Short (get_or P.rings k [])

-- the text as words, each after a blank or a line's end
module _ (seams : ℕ) (P : Plain) where
  abbrev panels : Text
  panels = join (length P.rings) (λ k. 0x0a ∷ ring_words (get_or P.rings k [])) ++ line

  abbrev body : Text
  body = join P.corners (λ i. 0x0a ∷ corner_words P.coordinates i) ++ panels

  abbrev seam_count : Text
  seam_count = 0x20 ∷ (number seams ++ body)

  abbrev panel-count : Text
  panel-count = 0x20 ∷ (number (length P.rings) ++ seam_count)

  abbrev corner-count : Text
  corner-count = 0x0a ∷ (number P.corners ++ panel-count)

  corner-line : (i : ℕ) → corner_line P.coordinates i ≡ corner_words P.coordinates i ++ line
  unfolding corner_line corner_words
  corner-line i = simp append_assoc

  ring-line : (r : Ring) → ring_line r ≡ ring_words r ++ line
  unfolding ring_line ring_words
  ring-line r = sym (append_assoc (number (length r)) (join (length r) (λ l. 0x20 ∷ number (get_or r l 0))) line)

  body_is : 0x0a ∷ (join P.corners (corner_line P.coordinates) ++ join (length P.rings) (λ j. ring_line (get_or P.rings j []))) ≡ body
  body_is =
      let corner-lines = join_same P.corners {f = corner_line P.coordinates} (λ i h. corner-line i) in
      let ring-lines = join_same (length P.rings) {f = λ j. ring_line (get_or P.rings j [])} (λ j h. ring-line (get_or P.rings j [])) in
      let rings = join (length P.rings) (λ j. ring_words (get_or P.rings j []) ++ line) in
      rw (corner-lines, ring-lines)
      (lines_shift P.corners (corner_words P.coordinates) rings
      ∙ ap (λ t. join P.corners (λ i. 0x0a ∷ corner_words P.coordinates i) ++ t)
      (ap (λ t. 0x0a ∷ t) (sym (append-nil rings)) ∙ lines_shift (length P.rings) (λ j. ring_words (get_or P.rings j [])) []))

  text-is : write_off seams P ≡ 0x4f ∷ 0x46 ∷ 0x46 ∷ corner-count
  unfolding write_off head_lines
  text-is = simp append_assoc (ap (λ t. 0x4f ∷ 0x46 ∷ 0x46 ∷ 0x0a ∷ (number P.corners ++ (0x20 ∷ (number (length P.rings) ++ (0x20 ∷ (number seams ++ t)))))) body_is)

  keyword_read : keyword (0x4f ∷ 0x46 ∷ 0x46 ∷ corner-count) ≡ found 0 corner-count
  unfolding keyword keyword_here skipped is_blank word_ends
  keyword_read = refl

  count_read : (n : ℕ) (b : ℕ) (t : Text) → is_blank b ≡ true → n ≤ 96 → word_ends t ≡ true → cell_count (b ∷ (number n ++ t)) ≡ found n t
  unfolding cell_count
  count_read n b t c h e = rw (natural_read n t b c (omega arith) e, le-leb n 96 h)

  over : is_over line ≡ true
  unfolding is_over skipped is_blank
  over = refl

  pieces_end : (n : ℕ) (words : ℕ → Text) (t : Text) → word_ends t ≡ true → word_ends (join n (λ k. 0x0a ∷ words k) ++ t) ≡ true
  pieces_end zero words t e = rw (join-zero (λ k. 0x0a ∷ words k)) e
  pieces_end (suc n) words t e =
      rw (join-suc n (λ k. 0x0a ∷ words k), append_assoc (join n (λ k. 0x0a ∷ words k)) (0x0a ∷ words n) t)
      (pieces_end n words (0x0a ∷ (words n ++ t)) (line-ends_word _))

  -- "an exported text is a plain OFF text", and says what was written
  pub read_written : Sayable seams P → read_off (write_off seams P) ≡ found P []
  unfolding read_off
  read_written S =
      let rings-end = pieces_end (length P.rings) (λ k. ring_words (get_or P.rings k [])) line (line-ends_word []) in
      let body-ends = pieces_end P.corners (corner_words P.coordinates) panels rings-end in
      let coordinates : list_of (3 * P.corners) (λ i. get_or P.coordinates i (pos 0)) ≡ P.coordinates = relisted P.coordinates (pos 0) S.long in
      let rings : list_of (length P.rings) (λ k. get_or P.rings k []) ≡ P.rings = relisted P.rings [] refl in
      rw (
        text-is,
        keyword_read,
        count_read P.corners 0x0a panel-count line-ends S.few (blank-ends _),
        count_read (length P.rings) 0x20 seam_count blank S.few-rings (blank-ends _),
        natural_read seams body 0x20 blank S.few-seams body-ends,
        corners_read P.corners P.coordinates panels S.near rings-end,
        rings_read (length P.rings) (λ k. get_or P.rings k []) line S.short (line-ends_word []),
        over,
        coordinates,
        rings,
      )

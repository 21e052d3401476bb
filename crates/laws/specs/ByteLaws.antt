-- Numbers in lists of bytes: one byte more, in a part of the list, how large, which bytes a number is read from, and that what is stored is read.
use Rattle.std.specs.Prelude.{ℕ, zero, suc, ◌+◌, ◌*◌, ◌/◌, ◌%◌, ◌≤◌, ◌<◌, ◌^◌, ◌≡◌, refl, List, [], ◌∷◌, ◌++◌, length, get_or, drop, set}
use Rattle.std.proofs.Common.{arith, add_assoc, pow-suc, add-one, sym, ◌∙◌, ap, ap₂, append_assoc, length-set, length-append, get_or-drop, get_or-set_same, get_or-set_other, length-take-le}
use Rattle.std.proofs.Math.Nat.{pow-le-pow_right}
use Rattle.std.proofs.lemmas.List.Edits.{sets, sets-eq}
use Rattle.std.proofs.lemmas.List.{get_or_at}
use Rattle.definitions.specs.Bytes.{big, bytes_of}
use Rattle.laws.specs.Rounding.{quotient_remainder, quotient_below}

pub big_none : (s : List ℕ) (at : ℕ) → big 0 s at ≡ 0
unfolding big
big_none s at = refl

-- one byte more, over the width
pub big_more : (width : ℕ) (s : List ℕ) (at : ℕ) → big (width + 1) s at ≡ big width s at * 256 + get_or s (at + width) 0
unfolding big
big_more width s at = rw add-one refl

-- a number in the part of the list that starts at n
pub big_drop : (width n : ℕ) (s : List ℕ) (at : ℕ) → big width (drop n s) at ≡ big width s (n + at)
unfolding big
big_drop zero n s at = refl
big_drop (suc width) n s at = ap₂ (λ (a b : ℕ). a * 256 + b) (big_drop width n s at) (rw (get_or-drop, add_assoc) refl)

-- one byte more, in the bound
pub below_more : (value width byte : ℕ) → value < 256 ^ width → byte < 256 → value * 256 + byte < 256 ^ (width + 1)
below_more value width byte h b = rw (add-one, pow-suc) (omega arith)

-- fewer bytes, no larger bound
pub below_wider : (value width most : ℕ) → value < 256 ^ width → width ≤ most → value < 256 ^ most
below_wider value width most h l = omega (arith, pow-le-pow_right {n = 256} (omega arith) l)

-- a number is read from the bytes at its place alone
pub big_same : (width at : ℕ) (s t : List ℕ) → ((i : ℕ) → i < width → get_or s (at + i) 0 ≡ get_or t (at + i) 0) → big width s at ≡ big width t at
unfolding big
big_same zero at s t h = refl
big_same (suc width) at s t h = grind (arith, big_same width)

-- what stands before a run of stores, and after it, is as it was; in it stand its own entries
pub sets_before : (l : List ℕ) (i : ℕ) (vs : List ℕ) (k : ℕ) → k < i → get_or (sets l i vs) k 0 ≡ get_or l k 0
sets_before l i [] k h = refl
sets_before l i (v ∷ vs) k h = sets_before (set l i v) (suc i) vs k (omega arith) ∙ get_or-set_other l i k v 0 (λ e. omega arith)

pub sets_after : (l : List ℕ) (i : ℕ) (vs : List ℕ) (k : ℕ) → i + length vs ≤ k → get_or (sets l i vs) k 0 ≡ get_or l k 0
sets_after l i [] k h = refl
sets_after l i (v ∷ vs) k h = sets_after (set l i v) (suc i) vs k (omega arith) ∙ get_or-set_other l i k v 0 (λ e. omega arith)

pub sets_inside : (l : List ℕ) (i : ℕ) (vs : List ℕ) (k : ℕ) → i + length vs ≤ length l → k < length vs → get_or (sets l i vs) (i + k) 0 ≡ get_or vs k 0
sets_inside l i [] k room h = absurd (omega arith)
sets_inside l i (v ∷ vs) zero room h = grind (arith, sets_before, get_or-set_same)
sets_inside l i (v ∷ vs) (suc k) room h = grind (arith, sets_inside (set l i v) (suc i) vs k, length-set)

pub length_bytes : (width n : ℕ) → length (bytes_of width n) ≡ width
unfolding bytes_of
length_bytes zero n = refl
length_bytes (suc width) n = length-append (bytes_of width (n / 256)) (n % 256 ∷ []) ∙ omega (arith, length_bytes width (n / 256))

-- a number that was written in so many bytes, and fits them, is read
pub big_of_bytes : (width n : ℕ) (pre post : List ℕ) (at : ℕ) → length pre ≡ at → n < 256 ^ width → big width (pre ++ (bytes_of width n ++ post)) at ≡ n
unfolding big bytes_of
big_of_bytes zero n pre post at e fits = omega arith
big_of_bytes (suc width) n pre post at e fits =
    let before : List ℕ = bytes_of width (n / 256) in
    let power : 256 ^ suc width ≡ 256 ^ width * 256 = pow-suc 256 width in
    let upper : big width (pre ++ (before ++ (n % 256 ∷ post))) at ≡ n / 256 = big_of_bytes width (n / 256) pre (n % 256 ∷ post) at e (quotient_below n (256 ^ width) 256 (omega (arith, power, fits))) in
    let place : length (pre ++ before) ≡ at + width = omega (arith, e, length-append pre before, length_bytes width (n / 256)) in
    let last : get_or (pre ++ (before ++ (n % 256 ∷ post))) (at + width) 0 ≡ n % 256 = ap (λ (l : List ℕ). get_or l (at + width) 0) (sym (append_assoc pre before (n % 256 ∷ post))) ∙ get_or_at (pre ++ before) (n % 256) post 0 (at + width) place in
    rw (append_assoc before (n % 256 ∷ []) post) (omega (arith, upper, last, quotient_remainder n 256))

-- a number that was read from bytes fits them
pub big_below : (width at : ℕ) (s : List ℕ) → ((i : ℕ) → get_or s i 0 < 256) → big width s at < 256 ^ width
unfolding big
big_below zero at s low = omega arith
big_below (suc width) at s low = grind (arith, big_below width, below_more)

-- and so one that is stored in them
pub big_stored : (width n : ℕ) (s : List ℕ) (at : ℕ) → at + width ≤ length s → n < 256 ^ width → big width (sets s at (bytes_of width n)) at ≡ n
big_stored width n s at room fits = grind (arith, sets-eq, length_bytes, append_assoc, big_of_bytes, length-take-le)

-- every number that stands before the bytes of n, or after them, is as it was
module _ (width n : ℕ) (s : List ℕ) (at : ℕ) where
  pub number_before : (w k : ℕ) → k + w ≤ at → big w (sets s at (bytes_of width n)) k ≡ big w s k
  number_before w k h = big_same w k _ s (λ i b. sets_before s at (bytes_of width n) (k + i) (omega arith))

  pub number_after_lem : (w k : ℕ) → at + width ≤ k → big w (sets s at (bytes_of width n)) k ≡ big w s k
  number_after_lem w k h = big_same w k _ s (λ i b. sets_after s at (bytes_of width n) (k + i) (omega (arith, length_bytes width n)))

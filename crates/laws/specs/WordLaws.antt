-- Numbers and lists of numbers as bytes: what is read is what was written, and what is written is what was read.
use Rattle.std.specs.Prelude.{ℕ, zero, suc, ◌+◌, ◌*◌, ◌/◌, ◌%◌, ◌≤◌, ◌<◌, ◌^◌, ◌≡◌, List, [], ◌∷◌, ◌++◌, length, get_or, take, drop, refl}
use Rattle.std.proofs.Common.{arith, add-one, sym, ◌∙◌, ap, ap₂, append_assoc, append-nil, length-append, length-drop, take-suc, take-add, drop-drop, get_or-drop}
use Rattle.definitions.specs.Sums.{firsts}
use Rattle.definitions.specs.Bytes.{big, bytes_of}
use Rattle.definitions.specs.Fields.{numbers_at, words_of}
use Rattle.laws.specs.Rounding.{quotient_unique, remainder_unique}
use Rattle.laws.specs.ListLaws.{length_firsts}
use Rattle.laws.specs.ByteLaws.{length_bytes, big_of_bytes, big_below}
use Rattle.laws.specs.BlockLaws.{firsts_further}

-- so many entries from the place at on, one by one
pub part_listed : (n at : ℕ) (s : List ℕ) → at + n ≤ length s → firsts n (λ i. get_or s (at + i) 0) ≡ take n (drop at s)
unfolding firsts
part_listed zero at s room = refl
part_listed (suc n) at s room = grind (arith, part_listed n, get_or-drop, take-suc, length-drop)

-- the bytes of a number that was read are the entries that it was read from
pub bytes_listed : (width at : ℕ) (s : List ℕ) → ((i : ℕ) → get_or s i 0 < 256) → bytes_of width (big width s at) ≡ firsts width (λ i. get_or s (at + i) 0)
unfolding big bytes_of firsts
bytes_listed zero at s low = refl
bytes_listed (suc width) at s low =
    let upper : ℕ = big width s at in
    let last : ℕ = get_or s (at + width) 0 in
    let quotient : (upper * 256 + last) / 256 ≡ upper = quotient_unique (upper * 256 + last) 256 upper last (low (at + width)) refl in
    let remainder : (upper * 256 + last) % 256 ≡ last = remainder_unique (upper * 256 + last) 256 upper last (low (at + width)) refl in
    ap₂ (λ (n b : ℕ). bytes_of width n ++ (b ∷ [])) quotient remainder
    ∙ ap (λ (l : List ℕ). l ++ (last ∷ [])) (bytes_listed width at s low)

-- and so this part of the list
pub bytes_of_big : (width at : ℕ) (s : List ℕ) → ((i : ℕ) → get_or s i 0 < 256) → at + width ≤ length s → bytes_of width (big width s at) ≡ take width (drop at s)
bytes_of_big width at s low room = bytes_listed width at s low ∙ part_listed width at s room

-- how many numbers are read
pub length_numbers : (s : List ℕ) (at n : ℕ) → length (numbers_at s at n) ≡ n
unfolding numbers_at
length_numbers s at n = length_firsts n (λ k. big 4 s (at + 4 * k))

-- numbers in two runs, one after the other
pub numbers_further : (s : List ℕ) (at a b : ℕ) → numbers_at s at (a + b) ≡ numbers_at s at a ++ numbers_at s (at + 4 * a) b
unfolding numbers_at
numbers_further s at a b = grind (arith, firsts_further)

one_number : (s : List ℕ) (at : ℕ) → numbers_at s at 1 ≡ big 4 s at ∷ []
unfolding numbers_at firsts
one_number s at = let here : at + 4 * 0 ≡ at = omega arith in ap (λ (k : ℕ). big 4 s k ∷ []) here

-- the first number, and the later ones
numbers_first : (s : List ℕ) (at n : ℕ) → numbers_at s at (suc n) ≡ big 4 s at ∷ numbers_at s (at + 4) n
numbers_first s at n =
    let more : suc n ≡ 1 + n = omega arith in
    ap (numbers_at s at) more ∙ numbers_further s at 1 n ∙ ap (λ (l : List ℕ). l ++ numbers_at s (at + 4) n) (one_number s at)

-- the bytes of numbers in two runs
pub words_append : (a b : List ℕ) → words_of (a ++ b) ≡ words_of a ++ words_of b
unfolding words_of
words_append [] b = refl
words_append (x ∷ later) b = ap (λ (l : List ℕ). bytes_of 4 x ++ l) (words_append later b) ∙ sym (append_assoc (bytes_of 4 x) (words_of later) (words_of b))

-- the bytes of the first number, and those of the later ones
pub words_first : (x : ℕ) (later : List ℕ) → words_of (x ∷ later) ≡ bytes_of 4 x ++ words_of later
unfolding words_of
words_first x later = refl

-- one number more
pub words_more : (n : ℕ) (f : ℕ → ℕ) → words_of (firsts (n + 1) f) ≡ words_of (firsts n f) ++ bytes_of 4 (f n)
unfolding firsts words_of
words_more n f = rw add-one (words_append (firsts n f) (f n ∷ []) ∙ ap (λ (l : List ℕ). words_of (firsts n f) ++ l) (append-nil (bytes_of 4 (f n))))

-- each number has four bytes
pub length_words : (l : List ℕ) → length (words_of l) ≡ 4 * length l
unfolding words_of
length_words [] = refl
length_words (x ∷ later) = omega (arith, length-append (bytes_of 4 x) (words_of later), length_bytes 4 x, length_words later)

-- the bytes of numbers that were read are the bytes that they were read from
pub words_of_numbers : (s : List ℕ) (at n : ℕ) → ((i : ℕ) → get_or s i 0 < 256) → at + 4 * n ≤ length s → words_of (numbers_at s at n) ≡ take (4 * n) (drop at s)
words_of_numbers s at zero low room = unfold numbers_at firsts words_of in refl
words_of_numbers s at (suc n) low room =
    let four : 4 * suc n ≡ 4 + 4 * n = omega arith in
    ap words_of (numbers_first s at n)
    ∙ words_first (big 4 s at) (numbers_at s (at + 4) n)
    ∙ ap₂ (λ (x y : List ℕ). x ++ y) (bytes_of_big 4 at s low (omega arith)) (words_of_numbers s (at + 4) n low (omega arith))
    ∙ ap (λ (l : List ℕ). take 4 (drop at s) ++ take (4 * n) l) (sym (drop-drop 4 at s))
    ∙ sym (take-add 4 (4 * n) (drop at s))
    ∙ ap (λ (k : ℕ). take k (drop at s)) (sym four)

-- numbers that were written, and fit their bytes, are read
pub numbers_of_words : (l pre post : List ℕ) (at : ℕ) → length pre ≡ at → ((i : ℕ) → get_or l i 0 < 2 ^ 32) → numbers_at (pre ++ (words_of l ++ post)) at (length l) ≡ l
numbers_of_words [] pre post at e fits = unfold numbers_at firsts in refl
numbers_of_words (x ∷ later) pre post at e fits =
    let whole : pre ++ (words_of (x ∷ later) ++ post) ≡ pre ++ (bytes_of 4 x ++ (words_of later ++ post)) = ap (λ (l : List ℕ). pre ++ (l ++ post)) (words_first x later) ∙ ap (λ (l : List ℕ). pre ++ l) (append_assoc (bytes_of 4 x) (words_of later) post) in
    let parted : pre ++ (bytes_of 4 x ++ (words_of later ++ post)) ≡ (pre ++ bytes_of 4 x) ++ (words_of later ++ post) = sym (append_assoc pre (bytes_of 4 x) (words_of later ++ post)) in
    let place : length (pre ++ bytes_of 4 x) ≡ at + 4 = omega (arith, e, length-append pre (bytes_of 4 x), length_bytes 4 x) in
    ap (λ (s : List ℕ). numbers_at s at (suc (length later))) whole
    ∙ numbers_first (pre ++ (bytes_of 4 x ++ (words_of later ++ post))) at (length later)
    ∙ ap₂ (λ (n : ℕ) (l : List ℕ). n ∷ l) (big_of_bytes 4 x pre (words_of later ++ post) at e (fits 0))
    (ap (λ (s : List ℕ). numbers_at s (at + 4) (length later)) parted ∙ numbers_of_words later (pre ++ bytes_of 4 x) post (at + 4) place (λ i. fits (suc i)))

-- entries that are all below k, in two lists and in both together
pub below_append : (k : ℕ) (a b : List ℕ) → ((i : ℕ) → get_or a i 0 < k) → ((i : ℕ) → get_or b i 0 < k) → (i : ℕ) → get_or (a ++ b) i 0 < k
below_append k [] b p q i = q i
below_append k (x ∷ a) b p q zero = p 0
below_append k (x ∷ a) b p q (suc i) = below_append k a b (λ j. p (suc j)) q i

-- the bytes of a number, and those of a list of numbers, are bytes
pub bytes_below : (width n i : ℕ) → get_or (bytes_of width n) i 0 < 256
unfolding bytes_of
bytes_below zero n i = omega arith
bytes_below (suc width) n i = grind (arith, bytes_below width (n / 256), below_append)

pub words_below : (l : List ℕ) (i : ℕ) → get_or (words_of l) i 0 < 256
unfolding words_of
words_below [] i = omega arith
words_below (x ∷ later) i = below_append 256 (bytes_of 4 x) (words_of later) (bytes_below 4 x) (words_below later) i

-- numbers that are all below k, in a list of them
pub firsts_below : (k n : ℕ) (f : ℕ → ℕ) → ((i : ℕ) → f i < k) → (i : ℕ) → get_or (firsts n f) i 0 < k
unfolding firsts
firsts_below k zero f p i = omega (arith, p 0)
firsts_below k (suc n) f p i = grind (arith, firsts_below k n f p, below_append)

-- numbers that were read from bytes fit their bytes
pub numbers_below : (s : List ℕ) (at n : ℕ) → ((i : ℕ) → get_or s i 0 < 256) → (i : ℕ) → get_or (numbers_at s at n) i 0 < 2 ^ 32
unfolding numbers_at
numbers_below s at n low = firsts_below (2 ^ 32) n (λ k. big 4 s (at + 4 * k)) (λ k. big_below 4 (at + 4 * k) s low)

-- A text read digit by digit: what is known after some of them, and what comes of the next byte. Assumes nothing.
use Rattle.std.specs.Prelude.{◌≡◌, refl, List, [], ◌∷◌, ◌⊎◌, Bool, true, false, ◌&&◌, ℕ, ◌+◌, ◌*◌, ◌-◌, ◌^◌, ◌≤◌, ◌<◌, ltb, leb, length, drop, get_or, Option, None, Some}
use Rattle.std.proofs.Common.{◌∙◌, inl, inr, ⊎_elim, mul-le-mul_left, add-one, arith, drop-cons, lt-ltb, le-leb, leb-true, leb-false}
use Rattle.std.proofs.Math.Bool.{and-false}
use Rattle.std.proofs.Math.Nat.{one-le-pow, pow-suc}
use Rattle.std.proofs.Math.Seq.{drop-length}
use Rattle.std.proofs.lemmas.Bool.{lt-leb}
use Rattle.definitions.specs.Sums.{pick}
use Rattle.definitions.specs.Numeral.{is_digit, all_digits, value_of, numeral}

-- a number with one digit more
abbrev pub longer : ℕ → ℕ → ℕ
longer value b = value * 10 + (b - 48)

-- the same, where the byte is a digit and it is at most the limit
unfoldable pub with_digit : ℕ → ℕ → ℕ → Option ℕ
with_digit most value b = pick (is_digit b && leb (longer value b) most) (Some (longer value b)) None

-- the first i bytes are digits and make the value: what the text is depends on the rest alone
pub record Read (text : List ℕ) (i value : ℕ) : Type 0 where
  pub digits : all_digits text ≡ all_digits (drop i text)
  pub worth : value_of text ≡ value * 10 ^ length (drop i text) + value_of (drop i text)

-- before the first byte
pub unread : (text : List ℕ) → Read text 0 0
unread text = record { digits = refl; worth = omega arith }

-- the text from byte i on: that byte, and the rest
from : (text : List ℕ) (i : ℕ) → i < length text → drop i text ≡ get_or text i 0 ∷ drop (i + 1) text
from text i h = rw (add-one i) (drop-cons text i 0 h)

-- one byte further
module _ {text : List ℕ} {i value : ℕ} (read : Read text i value) (h : i < length text) where
  next_worth : value_of text ≡ longer value (get_or text i 0) * 10 ^ length (drop (i + 1) text) + value_of (drop (i + 1) text)
  unfolding value_of
  next_worth = omega (arith, rw (from text i h, pow-suc 10 (length (drop (i + 1) text))) at read.worth)

  next_digits : all_digits text ≡ (is_digit (get_or text i 0) && all_digits (drop (i + 1) text))
  unfolding all_digits
  next_digits = rw (from text i h) at read.digits

  next_at_most : longer value (get_or text i 0) ≤ value_of text
  next_at_most =
      omega (arith, next_worth, mul-le-mul_left (longer value (get_or text i 0)) (one-le-pow (length (drop (i + 1) text)) 10 (omega arith)))

-- a byte below 0 or above 9 is no digit; one from 0 to 9 is one
pub below_0 : (b : ℕ) → b < 48 → is_digit b ≡ false
below_0 b h = rw (lt-leb 48 b h)

pub above_9 : (b : ℕ) → 57 < b → is_digit b ≡ false
above_9 b h = rw (lt-leb b 57 h) (and-false (leb 48 b))

pub from_0_to_9 : (b : ℕ) → 48 ≤ b → b ≤ 57 → is_digit b ≡ true
from_0_to_9 b h k = rw (le-leb 48 b h, le-leb b 57 k)

-- what the next byte gives: none where it is no digit or the limit is passed, else the longer number
pub no_digit : (most value b : ℕ) → is_digit b ≡ false → with_digit most value b ≡ None
unfolding with_digit
no_digit most value b e = rw e

pub past_limit : (most value b : ℕ) → most < longer value b → with_digit most value b ≡ None
unfolding with_digit
past_limit most value b h = rw (lt-leb (longer value b) most h, and-false (is_digit b))

pub within_limit : (most value b : ℕ) → is_digit b ≡ true → longer value b ≤ most → with_digit most value b ≡ Some (longer value b)
unfolding with_digit
within_limit most value b e h = rw (e, le-leb (longer value b) most h)

-- and back from what it gave
was_given : (d s : Bool) (x n : ℕ) → pick (d && s) (Some x) None ≡ Some n → (d ≡ true) × (s ≡ true) × (x ≡ n)
was_given true true x n e = (refl, refl, cc)
was_given true false x n e = let z : ◌≡◌ {A = ℕ} 0 1 = cc in absurd (omega arith)
was_given false s x n e = let z : ◌≡◌ {A = ℕ} 0 1 = cc in absurd (omega arith)

was_none : (d s : Bool) (x : ℕ) → pick (d && s) (Some x) None ≡ None → (d ≡ false) ⊎ (s ≡ false)
was_none true true x e = let z : ◌≡◌ {A = ℕ} 0 1 = cc in absurd (omega arith)
was_none true false x e = inr refl
was_none false s x e = inl refl

-- a byte that gives a number is read
pub goes_on : {text : List ℕ} {i value n : ℕ} (most : ℕ) → i < length text → with_digit most value (get_or text i 0) ≡ Some n → Read text i value → Read text (i + 1) n × (n ≤ most)
unfolding with_digit
goes_on {text} {i} {value} {n} most h e read =
    let x = longer value (get_or text i 0) in
    let was = was_given (is_digit (get_or text i 0)) (leb x most) x n e in
    let same : n ≡ x = omega arith in
    (rw same (record { digits = next_digits read h ∙ rw was.0; worth = next_worth read h }), omega (arith, leb-true x most was.1))

-- a text with a byte that is no digit, or with a value past the limit, is no numeral
stray : (most : ℕ) (text : List ℕ) → all_digits text ≡ false → numeral most text ≡ None
unfolding numeral
stray most text e = rw (e, and-false)

passed : (most : ℕ) (text : List ℕ) → most < value_of text → numeral most text ≡ None
unfolding numeral
passed most text h = rw (lt-leb (value_of text) most h, and-false)

-- a byte that gives none stops the text
pub stops : {text : List ℕ} {i value : ℕ} (most : ℕ) → i < length text → with_digit most value (get_or text i 0) ≡ None → Read text i value → numeral most text ≡ None
unfolding with_digit
stops {text} {i} {value} most h e read =
    let x = longer value (get_or text i 0) in
    ⊎_elim (λ d. stray most text (next_digits read h ∙ rw d))
    (λ s. passed most text (omega (arith, leb-false x most s, next_at_most read h)))
    (was_none (is_digit (get_or text i 0)) (leb x most) x e)

-- a text of one digit or more that is read to its end says the value
pub read_whole : {text : List ℕ} {i value : ℕ} (most : ℕ) → 0 < length text → i ≡ length text → value ≤ most → Read text i value → numeral most text ≡ Some value
unfolding all_digits value_of numeral
read_whole {text} {i} {value} most h all m read =
    let none_left : drop i text ≡ [] = rw (all, drop-length text) in
    let says : value_of text ≡ value = omega (arith, rw none_left at read.worth) in
    rw (lt-ltb 0 (length text) h, says, rw none_left at read.digits, le-leb value most m)

-- no text says nothing
pub no_text : (most : ℕ) (text : List ℕ) → length text ≡ 0 → numeral most text ≡ None
unfolding numeral
no_text most text e = rw e

-- a number that is said is at most the limit
pub at_most : (most : ℕ) (text : List ℕ) (n : ℕ) → numeral most text ≡ Some n → n ≤ most
unfolding numeral
at_most most text n e =
    let was = was_given (ltb 0 (length text) && all_digits text) (leb (value_of text) most) (value_of text) n e in
    omega (arith, leb-true (value_of text) most was.1, was)

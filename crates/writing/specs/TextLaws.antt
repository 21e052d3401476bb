-- The bytes of a number, the highest first: those of a u64 of std, of which the last are asked for. Assumes nothing.
use Rattle.std.specs.Prelude.{◌≡◌, refl, [], ◌∷◌, ◌++◌, ℕ, zero, suc, ◌+◌, ◌*◌, ◌-◌, ◌/◌, ◌%◌, ◌^◌, ◌<◌, ◌≤◌, length, take, drop}
use Rattle.std.proofs.Common.{◌∙◌, sym, ap, pow-suc, pow-add, shr-shr, add-one, arith, inl, inr}
use Rattle.std.proofs.lemmas.Bool.{cases_lt}
use Rattle.std.proofs.Math.Nat.{div-one, div-div-eq-div-mul}
use Rattle.std.specs.Int.{w64, byte_at, bytes_high_first, to_be_bytes}
use Rattle.definitions.specs.Bytes.{bytes_of}

-- p bytes have 8 × p bits
pub bits_of_bytes : (p : ℕ) → 2 ^ (8 * p) ≡ 256 ^ p
bits_of_bytes zero = refl
bits_of_bytes (suc p) =
    let more : 8 * suc p ≡ 8 * p + 8 = omega arith in
    rw (more, pow-add 2 (8 * p) 8, pow-suc 256 p, bits_of_bytes p)

-- of so many bytes of n, the i highest, and b, the one after them
pub next_byte : (i n width b : ℕ) → i < width → b ≡ n / 256 ^ (width - 1 - i) % 256 → bytes_of (i + 1) (n / 256 ^ (width - (i + 1))) ≡ bytes_of i (n / 256 ^ (width - i)) ++ (b ∷ [])
unfolding bytes_of
next_byte i n width b h e =
    let q = width - 1 - i in
    let here : width - (i + 1) ≡ q = omega arith in
    let above : width - i ≡ suc q = omega arith in
    rw (here, above, e, add-one i, pow-suc 256 q, div-div-eq-div-mul n (256 ^ q) 256)

-- the byte that counts 256 to the k + 1 is that of n / 256 which counts 256 to the k
byte_above : (k n : ℕ) → byte_at (suc k) n ≡ byte_at k (n / 256)
byte_above zero n = refl
byte_above (suc k) n =
    let bits : 8 + 8 * suc k ≡ 8 * suc (suc k) = omega arith in
    rw (← bits_of_bytes (suc (suc k)), ← bits_of_bytes (suc k), ← bits) (ap (λ (m : ℕ). m % 256) (sym (shr-shr n 8 (8 * suc k))))

-- std writes the bytes from the highest down, `bytes_of` from the lowest up
low_last : (k n : ℕ) → bytes_high_first (suc k) n ≡ bytes_high_first k (n / 256) ++ (n % 256 ∷ [])
low_last zero n = refl
low_last (suc k) n = rw (byte_above k n, low_last k n) refl

same_bytes : (k n : ℕ) → bytes_high_first k n ≡ bytes_of k n
unfolding bytes_of
same_bytes zero n = refl
same_bytes (suc k) n =
    let all : suc k - (k + 1) ≡ 0 = omega arith in
    let none : suc k - 1 - k ≡ 0 = omega arith in
    let one : suc k - k ≡ 1 = omega arith in
    let next = next_byte k n (suc k) (n % 256) (omega arith) (rw (none, div-one n)) in
    low_last k n ∙ rw (same_bytes k (n / 256)) (sym (rw (all, one, add-one k, div-one n) at next))

last_of : (k width n : ℕ) → width ≤ k → drop (k - width) (bytes_high_first k n) ≡ bytes_high_first width n
last_of zero width n h = let none : width ≡ 0 = omega arith in rw none refl
last_of (suc k) width n h = elim (cases_lt k width) [
  | inl all ↦
      let same : width ≡ suc k = omega arith in
      let none : suc k - width ≡ 0 = omega arith in
      rw (none, same) refl
  | inr fewer ↦
      let one : suc k - width ≡ suc (k - width) = omega arith in
      rw one (last_of k width n fewer)
]

take_bytes : (k n : ℕ) → take k (bytes_high_first k n) ≡ bytes_high_first k n
take_bytes zero n = refl
take_bytes (suc k) n = rw (take_bytes k n) refl

length_high_first : (k n : ℕ) → length (bytes_high_first k n) ≡ k
length_high_first zero n = refl
length_high_first (suc k) n = ap suc (length_high_first k n)

-- so many bytes are so many
pub length_bytes : (k n : ℕ) → length (bytes_of k n) ≡ k
length_bytes k n = ap length (sym (same_bytes k n)) ∙ length_high_first k n

-- the last bytes of the eight
pub last_bytes : (width n : ℕ) → width ≤ 8 → take (8 - (8 - width)) (drop (8 - width) (to_be_bytes w64 n)) ≡ bytes_of width n
last_bytes width n h =
    let same : 8 - (8 - width) ≡ width = omega arith in
    rw (same, last_of 8 width n h, take_bytes width n) (same_bytes width n)

-- Blocks of one size that follow each other in a list.
use Rattle.std.specs.Prelude.{ℕ, zero, suc, ◌+◌, ◌*◌, ◌-◌, ◌/◌, ◌%◌, ◌≤◌, ◌<◌, ◌≡◌, refl, length, List, [], ◌∷◌, ◌++◌, get_or, take, drop}
use Rattle.std.proofs.Common.{arith, le_refl, ◌∙◌, length-take, length-drop, take-append-drop, drop-drop, get_or-take, get_or-drop, ext_get_or, length-take-le, add-zero, add-suc, sym, ap, ap₂, append_assoc, append-nil, take_at, drop_at}
use Rattle.std.proofs.lemmas.List.{drop-append-le}
use Rattle.std.proofs.lemmas.Nat.{row_fits}
use Rattle.definitions.specs.Sums.{firsts, over, blocks}
use Rattle.laws.specs.Rounding.{quotient_below, quotient_remainder, row_of_place, place_in_row}
use Rattle.laws.specs.ListLaws.{length_firsts, firsts_same, length_over, get_d_over, get_d_over_past, over_none, over_same, over_mono, over_kept, over_again}

-- the blocks up to block k end by the end of all blocks
pub block_end : (k count size : ℕ) → k < count → k * size + size ≤ count * size
block_end k count size h = row_fits k size count size h (le_refl size)

module _ {A : Type 0} where
  -- the first a entries, and n more
  pub firsts_further : (a n : ℕ) (f : ℕ → A) → firsts (a + n) f ≡ firsts a f ++ firsts n (λ i. f (a + i))
  unfolding firsts
  firsts_further a zero f = rw add-zero (sym (append-nil (firsts a f)))
  firsts_further a (suc n) f = rw add-suc (ap (λ (l : List A). l ++ (f (a + n) ∷ [])) (firsts_further a n f) ∙ append_assoc (firsts a f) (firsts n (λ i. f (a + i))) (f (a + n) ∷ []))

  -- a list filled up to a, whose part from a on is filled up to n, is filled up to a + n
  over_part : (a n : ℕ) (f g : ℕ → A) (l now : List A) → now ≡ over a f l → ((i : ℕ) → i < n → g i ≡ f (a + i)) → take a now ++ over n g (drop a now) ≡ over (a + n) f l
  unfolding over
  over_part a n f g l now e same =
      ap₂ (λ (x y : List A). x ++ (firsts n g ++ drop n y)) (ap (take a) e ∙ take_at (firsts a f) (drop a l) a (length_firsts a f)) (ap (drop a) e ∙ drop_at (firsts a f) (drop a l) a (length_firsts a f))
      ∙ ap₂ (λ (x y : List A). firsts a f ++ (x ++ y)) (firsts_same n g (λ i. f (a + i)) same) (drop-drop n a l)
      ∙ sym (append_assoc (firsts a f) (firsts n (λ i. f (a + i))) (drop (a + n) l))
      ∙ ap (λ (x : List A). x ++ drop (a + n) l) (sym (firsts_further a n f))

  -- an entry of a part of k entries from a on
  get_d_part : (d : A) (a k : ℕ) (l : List A) (i : ℕ) → i < k → get_or (take k (drop a l)) i d ≡ get_or l (a + i) d
  get_d_part d a k l i h = get_or-take k (drop a l) i d h ∙ get_or-drop a l i d

  -- such a part, filled up to n and put back
  pub put_back : (a k n : ℕ) (g : ℕ → A) (l : List A) → n ≤ length (take k (drop a l)) → take a l ++ (over n g (take k (drop a l)) ++ drop k (drop a l)) ≡ take a l ++ over n g (drop a l)
  unfolding over
  put_back a k n g l h =
      ap (λ (x : List A). take a l ++ x)
      (append_assoc (firsts n g) (drop n (take k (drop a l))) (drop k (drop a l))
      ∙ ap (λ (x : List A). firsts n g ++ x) (sym (drop-append-le n (take k (drop a l)) (drop k (drop a l)) h) ∙ ap (drop n) (take-append-drop k (drop a l))))

  module _ (size : ℕ) where
    pub blocks_none : (f : ℕ → ℕ → A) (l : List A) → blocks size 0 f l ≡ l
    unfolding blocks
    blocks_none f l = rw (let z : 0 * size ≡ 0 = omega arith in z) (over_none (λ p. f (p / size) (p % size)) l)

    pub length_blocks : (count : ℕ) (f : ℕ → ℕ → A) (l : List A) → count * size ≤ length l → length (blocks size count f l) ≡ length l
    unfolding blocks
    length_blocks count f l h = length_over (count * size) (λ p. f (p / size) (p % size)) l h

    -- entry c of block k
    pub get_d_blocks : (d : A) (count : ℕ) (f : ℕ → ℕ → A) (l : List A) (k c : ℕ) → k < count → c < size → get_or (blocks size count f l) (k * size + c) d ≡ f k c
    unfolding blocks
    get_d_blocks d count f l k c hk hc = grind (arith, get_d_over)

    -- the same, in block k taken out
    pub get_d_block : (d : A) (count : ℕ) (f : ℕ → ℕ → A) (l : List A) (k c : ℕ) → k < count → c < size → get_or (take size (drop (k * size) (blocks size count f l))) c d ≡ f k c
    get_d_block d count f l k c hk hc = get_d_part d (k * size) size (blocks size count f l) c hc ∙ get_d_blocks d count f l k c hk hc

    -- what stands past the blocks is as it was
    get_d_blocks_past : (d : A) (count : ℕ) (f : ℕ → ℕ → A) (l : List A) (i : ℕ) → count * size ≤ i → get_or (blocks size count f l) i d ≡ get_or l i d
    unfolding blocks
    get_d_blocks_past d count f l i h = get_d_over_past d (count * size) (λ p. f (p / size) (p % size)) l i h

    -- blocks filled once more: as if filled so at once
    pub blocks_again : (d : A) (count : ℕ) (f g : ℕ → ℕ → A) (l now : List A) → count * size ≤ length l → now ≡ blocks size count f l → blocks size count g now ≡ blocks size count g l
    unfolding blocks
    blocks_again d count f g l now room e =
        over_again d (count * size) (count * size) (λ p. f (p / size) (p % size)) (λ p. g (p / size) (p % size)) l now (le_refl (count * size)) room e

    pub blocks_same : (count : ℕ) (f g : ℕ → ℕ → A) (l : List A) → ((k c : ℕ) → k < count → c < size → f k c ≡ g k c) → blocks size count f l ≡ blocks size count g l
    unfolding blocks
    blocks_same count f g l same = grind (arith, over_same, quotient_below)

    -- where f agrees with the list, filling the blocks changes nothing
    pub blocks_kept : (d : A) (count : ℕ) (f : ℕ → ℕ → A) (l : List A) → count * size ≤ length l → ((k c : ℕ) → k < count → c < size → f k c ≡ get_or l (k * size + c) d) → blocks size count f l ≡ l
    blocks_kept d count f l room same =
        blocks_same count f (λ k c. get_or l (k * size + c) d) l same
        ∙ (unfold blocks in over_kept d (count * size) _ l room (λ p h. ap (λ (i : ℕ). get_or l i d) (quotient_remainder p size)))

    -- the next block filled: one turn of every loop that fills a list block by block
    blocks_store : (k : ℕ) (f : ℕ → ℕ → A) (g : ℕ → A) (l now : List A) → now ≡ blocks size k f l → ((c : ℕ) → c < size → g c ≡ f k c) → take (k * size) now ++ over size g (drop (k * size) now) ≡ blocks size (k + 1) f l
    unfolding blocks
    blocks_store k f g l now e same =
        over_part (k * size) size (λ p. f (p / size) (p % size)) g l now e
        (λ c h. same c h ∙ sym (ap₂ f (row_of_place k c size h) (place_in_row k c size h)))
        ∙ ap (λ (n : ℕ). over n (λ p. f (p / size) (p % size)) l) (omega arith)

    -- block k is whole in what is lent from its start to the end
    pub block_whole : (k : ℕ) (now : List A) → k * size + size ≤ length now → size ≤ length (take (length now - k * size) (drop (k * size) now))
    block_whole k now h = omega (arith, h, length-take (length now - k * size) (drop (k * size) now), length-drop (k * size) now)

    -- an entry of block k, lent as a part of j entries while the blocks before it are filled, is as it was
    pub get_d_next : (d : A) (k j : ℕ) (f : ℕ → ℕ → A) (l now : List A) → now ≡ blocks size k f l → size ≤ length (take j (drop (k * size) now)) → (i : ℕ) → i < size → get_or (take j (drop (k * size) now)) i d ≡ get_or l (k * size + i) d
    get_d_next d k j f l now e whole i b =
        get_d_part d (k * size) j now i (omega (arith, whole, b, length-take j (drop (k * size) now)))
        ∙ ap (λ (x : List A). get_or x (k * size + i) d) e
        ∙ get_d_blocks_past d k f l (k * size + i) (omega arith)

    -- the same where block k was lent as a part of j entries, and came back filled
    pub blocks_back : (k j : ℕ) (f : ℕ → ℕ → A) (g : ℕ → A) (l now part : List A) → now ≡ blocks size k f l → size ≤ length (take j (drop (k * size) now)) → part ≡ over size g (take j (drop (k * size) now)) → ((c : ℕ) → c < size → g c ≡ f k c) → take (k * size) now ++ (part ++ drop j (drop (k * size) now)) ≡ blocks size (k + 1) f l
    blocks_back k j f g l now part e room filled same =
        ap (λ (x : List A). take (k * size) now ++ (x ++ drop j (drop (k * size) now))) filled
        ∙ put_back (k * size) j size g now room
        ∙ blocks_store k f g l now e same

    -- one block alone
    pub blocks_one : (f : ℕ → ℕ → A) (l : List A) → blocks size 1 f l ≡ over size (f 0) l
    blocks_one f l =
        sym (blocks_store 0 f (f 0) l l (sym (blocks_none f l)) (λ c h. refl))
        ∙ rw (let z : 0 * size ≡ 0 = omega arith in z) refl

    -- block k, taken out
    pub block_is : (d : A) (count : ℕ) (f : ℕ → ℕ → A) (l : List A) (k : ℕ) → k < count → count * size ≤ length l → take size (drop (k * size) (blocks size count f l)) ≡ over size (f k) (take size (drop (k * size) l))
    block_is d count f l k h room =
        ext_get_or d _ (over size (f k) (take size (drop (k * size) l))) (whole (blocks size count f l) (omega (arith, room, block_end k count size h, length_blocks count f l room)) ∙ sym (length_over size (f k) (take size (drop (k * size) l)) (omega (arith, whole l (omega (arith, room, block_end k count size h)))) ∙ whole l (omega (arith, room, block_end k count size h))))
        (λ c b.
        let inside : c < size = omega (arith, b, whole (blocks size count f l) (omega (arith, room, block_end k count size h, length_blocks count f l room))) in
        get_d_block d count f l k c h inside
        ∙ sym (get_d_over d size (f k) (take size (drop (k * size) l)) c inside))
      where
        whole : (x : List A) → k * size + size ≤ length x → length (take size (drop (k * size) x)) ≡ size
        whole x enough = length-take-le size (drop (k * size) x) (omega (arith, enough, length-drop (k * size) x))

-- no lower numbers in the blocks leave no entry lower
pub blocks_mono : (size count : ℕ) (f g : ℕ → ℕ → ℕ) (l : List ℕ) → ((k c : ℕ) → k < count → c < size → f k c ≤ g k c) → (p : ℕ) → get_or (blocks size count f l) p 0 ≤ get_or (blocks size count g l) p 0
unfolding blocks
blocks_mono size count f g l h = grind (arith, over_mono, quotient_below)

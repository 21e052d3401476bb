-- Lists whose first entries are given by a function, over the type of the entries.
use Rattle.std.specs.Prelude.{ℕ, zero, suc, ◌+◌, ◌-◌, ◌≤◌, ◌<◌, ◌≡◌, length, refl, List, [], ◌∷◌, ◌++◌, get_or, drop, set}
use Rattle.std.proofs.Common.{arith, add-one, ◌∙◌, drop_of_length-le, ext_get_or, sym, ap, ap₂, append_assoc, append-nil, length-append, length-drop, length-set, drop-cons, get_or-append-add, get_or-drop, drop-set-lt, get_or-set_same}
use Rattle.std.proofs.Math.Decide.{ℕ_discrete, dec_lt}
use Rattle.std.proofs.Math.ListN.{get_or-append}
use Rattle.std.proofs.lemmas.List.{set_at, get_or_at}
use Rattle.definitions.specs.Sums.{firsts, over}

module _ {A : Type 0} where
  pub length_firsts : (n : ℕ) (f : ℕ → A) → length (firsts n f) ≡ n
  unfolding firsts
  length_firsts zero f = refl
  length_firsts (suc n) f = omega (arith, length-append (firsts n f) (f n ∷ []), length_firsts n f)

  -- an entry; d is what stands past a list's end
  pub get_d_firsts : (d : A) (n : ℕ) (f : ℕ → A) (i : ℕ) → i < n → get_or (firsts n f) i d ≡ f i
  unfolding firsts
  get_d_firsts d zero f i l = absurd (omega arith)
  get_d_firsts d (suc n) f i l =
      elim (ℕ_discrete i n) [
        | yes e ↦ rw e (get_or_at (firsts n f) (f n) [] d n (length_firsts n f))
        | no ne ↦ get_or-append (firsts n f) (f n ∷ []) d i (omega (arith, length_firsts n f)) ∙ get_d_firsts d n f i (omega arith)
      ]

  pub firsts_same : (n : ℕ) (f g : ℕ → A) → ((i : ℕ) → i < n → f i ≡ g i) → firsts n f ≡ firsts n g
  unfolding firsts
  firsts_same zero f g h = refl
  firsts_same (suc n) f g h = ap₂ (λ (l : List A) (x : A). l ++ (x ∷ [])) (firsts_same n f g (λ i l. h i (omega arith))) (h n (omega arith))

  pub over_none : (f : ℕ → A) (l : List A) → over 0 f l ≡ l
  unfolding over firsts
  over_none f l = refl

  pub length_over : (n : ℕ) (f : ℕ → A) (l : List A) → n ≤ length l → length (over n f l) ≡ length l
  unfolding over
  length_over n f l h = omega (arith, length-append (firsts n f) (drop n l), length_firsts n f, length-drop n l)

  -- an entry of the first n
  pub get_d_over : (d : A) (n : ℕ) (f : ℕ → A) (l : List A) (i : ℕ) → i < n → get_or (over n f l) i d ≡ f i
  unfolding over
  get_d_over d n f l i h = get_or-append (firsts n f) (drop n l) d i (omega (arith, length_firsts n f)) ∙ get_d_firsts d n f i h

  -- an entry past the first n is as it was
  pub get_d_over_past : (d : A) (n : ℕ) (f : ℕ → A) (l : List A) (i : ℕ) → n ≤ i → get_or (over n f l) i d ≡ get_or l i d
  unfolding over
  get_d_over_past d n f l i h =
      ap (λ (k : ℕ). get_or (firsts n f ++ drop n l) k d) (omega (arith, length_firsts n f))
      ∙ get_or-append-add (firsts n f) (drop n l) (i - n) d
      ∙ get_or-drop n l (i - n) d
      ∙ ap (λ (k : ℕ). get_or l k d) (omega arith)

  pub over_same : (n : ℕ) (f g : ℕ → A) (l : List A) → ((i : ℕ) → i < n → f i ≡ g i) → over n f l ≡ over n g l
  unfolding over
  over_same n f g l h = ap (λ (x : List A). x ++ drop n l) (firsts_same n f g h)

  -- a store extends the filled first entries: one turn of every loop that fills a list from the front
  pub over_store : (n : ℕ) (f : ℕ → A) (l now : List A) (v : A) → n < length l → now ≡ over n f l → v ≡ f n → set now n v ≡ over (n + 1) f l
  over_store n f l now v h e q = ap₂ (λ (x : List A) (y : A). set x n y) e q ∙ (unfold over firsts in more)
    where
      more : set (firsts n f ++ drop n l) n (f n) ≡ firsts (n + 1) f ++ drop (n + 1) l
      more = unfold firsts in rw (add-one, drop-cons l n (f n) h) (set_at (firsts n f) (get_or l n (f n)) (drop (suc n) l) (f n) n (length_firsts n f) ∙ sym (append_assoc (firsts n f) (f n ∷ []) (drop (suc n) l)))

  -- a store of entry n, with the n before it still to be filled: one turn of a loop that fills a list from the back
  pub store_over : (d : A) (n : ℕ) (f : ℕ → A) (l : List A) (v : A) → n < length l → v ≡ f n → over n f (set l n v) ≡ over (n + 1) f l
  unfolding over firsts
  store_over d n f l v h e =
      rw (add-one, drop-cons (set l n v) n d (omega (arith, length-set l n v)), get_or-set_same l n v d h, drop-set-lt (suc n) l n v (omega arith), e)
      (sym (append_assoc (firsts n f) (f n ∷ []) _))

  -- where f agrees with the list from n to m − 1, filled up to n it is filled up to m
  pub over_further : (d : A) (n m : ℕ) (f : ℕ → A) (l : List A) → n ≤ m → m ≤ length l → ((k : ℕ) → n ≤ k → k < m → f k ≡ get_or l k d) → over n f l ≡ over m f l
  over_further d n m f l nm ml rest =
      ext_get_or d (over n f l) (over m f l) (length_over n f l (omega arith) ∙ sym (length_over m f l ml)) (λ k b. same k)
    where
      same : (k : ℕ) → get_or (over n f l) k d ≡ get_or (over m f l) k d
      same k =
          elim (dec_lt k n) [
            | yes b ↦ get_d_over d n f l k b ∙ sym (get_d_over d m f l k (omega arith))
            | no p ↦
                get_d_over_past d n f l k (omega (arith, p))
                ∙ elim (dec_lt k m) [
                  | yes b ↦ sym (get_d_over d m f l k b ∙ rest k (omega (arith, p)) b)
                  | no q ↦ sym (get_d_over_past d m f l k (omega (arith, q)))
                ]
          ]

  -- where f agrees with the list up to n, filling changes nothing
  pub over_kept : (d : A) (n : ℕ) (f : ℕ → A) (l : List A) → n ≤ length l → ((k : ℕ) → k < n → f k ≡ get_or l k d) → over n f l ≡ l
  over_kept d n f l h same = sym (over_further d 0 n f l (omega arith) h (λ k low b. same k b)) ∙ over_none f l

  -- filled up to n, with the rest as f has it, the whole list is f's
  pub over_whole_lem : (d : A) (n size : ℕ) (f : ℕ → A) (l : List A) → n ≤ size → length l ≡ size → ((k : ℕ) → n ≤ k → k < size → f k ≡ get_or l k d) → over n f l ≡ firsts size f
  unfolding over
  over_whole_lem d n size f l h e rest =
      over_further d n size f l h (omega arith) rest
      ∙ ap (λ (x : List A). firsts size f ++ x) (drop_of_length-le l {i = size} (omega arith))
      ∙ append-nil (firsts size f)

  -- filled up to n, then up to k with other entries: as if filled up to k at once
  pub over_again : (d : A) (n k : ℕ) (f g : ℕ → A) (l now : List A) → n ≤ k → k ≤ length l → now ≡ over n f l → over k g now ≡ over k g l
  over_again d n k f g l now low room e =
      ap (over k g) e
      ∙ ext_get_or d (over k g (over n f l)) (over k g l) (length_over k g (over n f l) (omega (arith, filled)) ∙ filled ∙ sym (length_over k g l room)) (λ i b. same i)
    where
      filled : length (over n f l) ≡ length l
      filled = length_over n f l (omega arith)

      same : (i : ℕ) → get_or (over k g (over n f l)) i d ≡ get_or (over k g l) i d
      same i =
          elim (dec_lt i k) [
            | yes b ↦ get_d_over d k g (over n f l) i b ∙ sym (get_d_over d k g l i b)
            | no p ↦
                get_d_over_past d k g (over n f l) i (omega (arith, p))
                ∙ get_d_over_past d n f l i (omega (arith, p))
                ∙ sym (get_d_over_past d k g l i (omega (arith, p)))
          ]

-- no lower numbers in the first entries leave no entry lower
pub over_mono : (n : ℕ) (f g : ℕ → ℕ) (l : List ℕ) → ((i : ℕ) → i < n → f i ≤ g i) → (k : ℕ) → get_or (over n f l) k 0 ≤ get_or (over n g l) k 0
over_mono n f g l h k =
    elim (dec_lt k n) [
      | yes b ↦ omega (arith, get_d_over 0 n f l k b, get_d_over 0 n g l k b, h k b)
      | no p ↦ omega (arith, get_d_over_past 0 n f l k (omega (arith, p)), get_d_over_past 0 n g l k (omega (arith, p)))
    ]

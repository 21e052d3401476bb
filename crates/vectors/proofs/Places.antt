-- The places of a row: where they stand, what they hold, and that a part of their products fits. Assumes nothing.
use Rattle.std.proofs.Common.{◌≡◌, ◌∙◌, ap, ap₂, sym, List, ℕ, ◌+◌, ◌*◌, ◌-◌, ◌^◌, ◌<◌, ◌≤◌, get_or, length, map, take, drop, length-drop, length-take-le, get_or-take, get_or-drop, mul-le-mul_right, arith}
use Rattle.std.proofs.lemmas.List.{length-map, get_or-map}
use Rattle.definitions.specs.Sums.{sum}
use Rattle.laws.specs.SumLaws.{sum_more, sum_part}
use Rattle.vectors.specs.declared.Arrow.{Arrow}
use Rattle.vectors.specs.declared.Rows.{Rows}
use Rattle.vectors.specs.Lent.{listing_of}
use Rattle.vectors.specs.Ready.{RowReady, product_at}

-- the part of the arrows that starts at first and has n entries
abbrev pub part : List Arrow → ℕ → ℕ → List Arrow
part l first n = take (first + n - first) (drop first l)

part_entry : (l : List Arrow) (first n k : ℕ) (d : Arrow) → k < n → get_or (part l first n) k d ≡ get_or l (first + k) d
part_entry l first n k d h = get_or-take (first + n - first) (drop first l) k d (omega arith) ∙ get_or-drop first l k d

module _ (rows : Rows) {v : List ℕ} {i : ℕ} (given : RowReady rows.sizes (listing_of rows) v i) where
  abbrev arrows : List Arrow
  arrows = rows.arrows.now

  abbrev first : ℕ
  first = i * rows.sizes.states

  abbrev pub count : ℕ
  count = get_or rows.counts.now i 0

  abbrev pub product : ℕ → ℕ
  product = product_at rows.sizes.states (listing_of rows) v i

  -- the row is among the places lent
  row_room : first + count ≤ length arrows
  row_room =
      omega (arith, given.places.count_max i given.state, mul-le-mul_right rows.sizes.states given.state, given.places.target_room, length-map arrows (λ (a : Arrow). a.target))

  -- as many as the row uses
  pub length_part : length (part arrows first count) ≡ count
  length_part = length-take-le (first + count - first) (drop first arrows) (omega (arith, row_room, length-drop first arrows)) ∙ omega arith

  module _ {k : ℕ} (d : Arrow) (within : k < count) where
    field_at : (field : Arrow → ℕ) → field (get_or (part arrows first count) k d) ≡ get_or (map field arrows) (first + k) 0
    field_at field = ap field (part_entry arrows first count k d within) ∙ sym (get_or-map field arrows (first + k) d 0 (omega (arith, row_room)))

    -- a place holds a state
    pub target_below : {target : ℕ} → target ≡ (get_or (part arrows first count) k d).target → target < 64
    target_below e = omega (arith, e, field_at (λ (a : Arrow). a.target), given.places.target_max i k given.state within, given.states_max)

  module _ {k target rate : ℕ} (d : Arrow) (within : k < count) (target_is : target ≡ (get_or (part arrows first count) k d).target) (rate_is : rate ≡ (get_or (part arrows first count) k d).rate) where
    pub product_is : rate * get_or v target 0 ≡ product k
    product_is = ap₂ (λ (x y : ℕ). x * get_or v y 0) (rate_is ∙ field_at d within (λ (a : Arrow). a.rate)) (target_is ∙ field_at d within (λ (a : Arrow). a.target))

    -- with one product more the total is still a part of the row's sum
    pub total_fits : {total : ℕ} → total ≡ sum k product → total + rate * get_or v target 0 < 2 ^ 64
    total_fits e = omega (arith, product_is, sum_more k product, sum_part (k + 1) count product (omega arith), given.fits)

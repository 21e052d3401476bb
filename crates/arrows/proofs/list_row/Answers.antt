-- `arrows::list_row` meets its contract: at each turn the row is listed down to state j. Assumes nothing.
use Rattle.std.proofs.Common.{◌≡◌, refl, sym, ◌∙◌, ap, subst, List, set, ℕ, ◌+◌, ◌*◌, ◌-◌, ◌≤◌, ◌<◌, ◌||◌, arith}
use Rattle.std.specs.Prelude.{eqb, ltb}
use Rattle.std.proofs.lemmas.List.{map-set}
use Rattle.definitions.specs.Sums.{pick}
use Rattle.definitions.specs.File.{state_count}
use Rattle.definitions.specs.Chain.{Model, model_of, c}
use Rattle.definitions.specs.Arrows.{is_added}
use Rattle.laws.specs.Acceptance.{Framed}
use Rattle.laws.specs.Rounding.{place_below}
use Rattle.laws.specs.ChainLaws.{square_max}
use Rattle.reader.specs.Framed.{entry_room, entry_in_row}
use Rattle.vectors.specs.declared.Arrow.{Arrow}
use Rattle.vectors.specs.Arrows.{targets_of, rates_of}
use Rattle.arrows.specs.Rows.{DownTo}
use Rattle.arrows.specs.RowLaws.{entry_of_row, added_by, none_listed, left_out, place_left, listed_next, all_listed, added_fits}
use Rattle.arrows.proofs.list_row.Goals as goal
use Rattle.arrows.proofs.list_row.Goals.{After-row-row, After-is_added, Then-is_added}

-- an arrow is stored as its state among the states and its entry among the entries
stored : (m : Model) (i first j k place : ℕ) (targets₀ rates₀ : List ℕ) (arrows : List Arrow) (a : Arrow) (target rate : ℕ) → a.target ≡ target → a.rate ≡ rate → DownTo m i first j k targets₀ rates₀ (set (targets_of arrows) place target) (set (rates_of arrows) place rate) → DownTo m i first j k targets₀ rates₀ (targets_of (set arrows place a)) (rates_of (set arrows place a))
stored m i first j k place targets₀ rates₀ arrows a target rate et er row = rw (map-set (λ (a : Arrow). a.target) arrows place a, map-set (λ (a : Arrow). a.rate) arrows place a, et, er) row

-- the file is framed, and M was read
module _ (d : After-row-row) where
  abbrev m : Model
  m = model_of d.args.file.now

  framed : Framed d.args.file.now
  framed = subst Framed d.file.view_is d.file.invariant

  read : d.state_count-states.result ≡ m.states
  read = d.state_count-states.ensures ∙ ap state_count d.file.view_is

pub loop-j-init : goal.loop-j-init
loop-j-init d =
    let row = (goal.at.loop-j-init d).After-row-row in
    none_listed (m row) d.args.i _ _ _ _ _ (read row) (omega arith)

pub entry_in-entry-requires : goal.entry_in-entry-requires
entry_in-entry-requires d other =
    let row = (goal.at.entry_in-entry-requires d).After-row-row in
    rw d.row-row.ensures
    (entry_room d.args.file.now d.args.i (d.loop-j.j - 1) (framed row) d.requires.state (omega (arith, read row)) other)

-- what was read of a state, and whether it is added
module _ (d : After-is_added) where
  abbrev start : After-row-row
  start = (goal.at.After-is_added d).After-row-row

  abbrev j : ℕ
  j = d.loop-j.j - 1

  in_row : d.entry_in-entry.result ≡ pick (eqb j d.args.i) d.args.diagonal ((m start).transition d.args.i j)
  in_row = rw (d.row-row.ensures, entry_in_row d.args.file.now d.args.i j d.args.diagonal) at d.entry_in-entry.ensures.0

  entry : d.entry_in-entry.result ≡ c (m start) d.args.i j
  entry = in_row ∙ entry_of_row (m start) d.args.i j d.args.diagonal d.requires.stays

  told : d.is_added.result ≡ is_added (m start) d.args.i j
  told = d.is_added.ensures ∙ ap (λ (x : ℕ). eqb j d.args.i || ltb 0 x) in_row ∙ added_by (m start) d.args.i j d.args.diagonal

-- where it is added it has its place, one of the M × M
module _ (t : Then-is_added) where
  abbrev d : After-is_added
  d = (goal.at.Then-is_added t).After-is_added

  abbrev M : ℕ
  M = (m (start d)).states

  place : t.loop-j.k < M
  place =
      omega (arith, place_left (m (start d)) t.args.i _ _ _ t.loop-j.j t.loop-j.k _ _ t.loop-j.invariant (omega arith) (sym (told d) ∙ t.if-is_added.true), added_fits (m (start d)) t.args.i)

  place_max : t.args.i * t.state_count-states.result + t.loop-j.k < M * M
  place_max = rw (read (start d)) (place_below t.args.i t.loop-j.k M M t.requires.state place)

  few : M * M ≤ 64 * 64
  few = square_max M 64 (framed (start d)).states_max

pub overflow_add-first : goal.overflow_add-first
overflow_add-first c = let t = (goal.at.overflow_add-first c).Then-is_added in omega (arith, place_max t, few t)

pub offset_bounds-arrows-first : goal.offset_bounds-arrows-first
offset_bounds-arrows-first c = let t = (goal.at.offset_bounds-arrows-first c).Then-is_added in omega (arith, place_max t, few t)

pub bounds-arrows-first : goal.bounds-arrows-first
bounds-arrows-first c = omega (arith, place_max (goal.at.bounds-arrows-first c).Then-is_added)

pub overflow_add-k : goal.overflow_add-k
overflow_add-k c = let t = (goal.at.overflow_add-k c).Then-is_added in omega (arith, place t, (framed (start (d t))).states_max)

pub loop-j-preserved-then-is_added : goal.loop-j-preserved-then-is_added
loop-j-preserved-then-is_added t =
    let turn = (goal.at.loop-j-preserved-then-is_added t).After-is_added in
    stored (m (start turn)) t.args.i _ _ _ _ _ _ t.loop-j.arrows _ _ _ (omega arith) (omega (arith, entry turn))
    (listed_next (m (start turn)) t.args.i _ _ _ t.loop-j.j t.loop-j.k _ _ t.loop-j.invariant (omega arith) (sym (told turn) ∙ t.if-is_added.true) (c (m (start turn)) t.args.i (t.loop-j.j - 1)) refl)

pub loop-j-preserved : goal.loop-j-preserved
loop-j-preserved e =
    let turn = (goal.at.loop-j-preserved e).After-is_added in
    left_out (m (start turn)) e.args.i _ _ _ e.loop-j.j e.loop-j.k _ _ e.loop-j.invariant (omega arith) (sym (told turn) ∙ e.if-is_added.false)

pub returns : goal.returns
returns d =
    let row = (goal.at.returns d).After-row-row in
    let none : d.loop-j.j ≡ 0 = omega arith in
    let whole = all_listed (m row) d.args.i _ _ _ d.loop-j.k _ _ (rw none at d.loop-j.invariant) (d.args.i * (m row).states) (ap (λ (M : ℕ). d.args.i * M) (read row)) in
    record { count = whole.0; targets = whole.1; rates = whole.2 }

-- Demand 3, the runs of a list of times and the bound of the level, checked by hand: what is promised of B is false where one figure, one level or one cell is
-- another.
use Rattle.std.specs.Prelude.{ℕ, ◌*◌, ◌≤◌, ◌<◌, Bool, false, List, [], ◌∷◌, ◌≡◌, refl, get_or, replicate, leb}
use Rattle.std.proofs.Common.{mul-le-mul_right, le_of_mul-le-mul_right, arith, ap, sym, ◌∙◌, lit<, le-leb}
use Rattle.definitions.specs.declared.Run.{Run}
use Rattle.definitions.specs.Sums.{sum, largest, any_above, firsts, over, pick}
use Rattle.definitions.specs.Bytes.{big, bytes_of}
use Rattle.definitions.specs.File.{with_time, distributions}
use Rattle.definitions.specs.Chain.{Model, model_of, jump_rate, row_sum, uniform_rate, c, max_reward, jump_millionths}
use Rattle.definitions.specs.Rules.{Answer, accepted, saying, framing, quantities, jumps, room, rows, first_held}
use Rattle.definitions.specs.Vectors.{row_mean, reward_share, mix, next_entry, first_vectors, next_vectors, U, row_means}
use Rattle.definitions.specs.Weights.{mode, rightward, leftward, weight, weight_sum}
use Rattle.definitions.specs.Level.{tail_bound, allowance, passes?, first_from, level}
use Rattle.definitions.specs.Moment.{term, weighted, nearest, last_quotient, weighted_mean, moment, cell_of, figure_of, cell, model_level, outcome, cells_after, count_after, LevelBounded}
use Rattle.definitions.specs.Fraction.{Fraction, Same, ratio, plus, total, power}
use Rattle.definitions.specs.Average.{exact_mean, exact_share, exact_mix, exact_first, exact_next, exact_u, factorial, exact_weight, average_of, average, start_average}
use Rattle.definitions.specs.Promise.{ticks, tolerance_of, Within, rounding_ticks, start_ticks, Promise}
use Rattle.definitions.specs.Series.{AreRuns, SeriesPromised, LevelsBounded}
use Rattle.definitions.specs.HandChecked.{file_a, file_b, model_b}
use Rattle.definitions.specs.StartChecked.{start_b}

-- 1. A figure p and the average y, with its value z: what the two bounds of a distance d exclude.

never : (a b : ℕ) → leb a b ≡ false → a ≤ b → ⊥
never a b e h = omega (arith, ap (λ (t : Bool). pick {A = ℕ} t 1 0) (sym e ∙ le-leb a b h))

too_high : {p y z d : Fraction} → Within p y d → Same y z → leb (p.num * (plus z d).den) ((plus z d).num * p.den) ≡ false → ⊥
too_high {p = p} {y = y} {z = z} {d = d} h same e =
    let cross : p.num * (plus z d).den ≤ (plus z d).num * p.den =
    le_of_mul-le-mul_right {k = y.den} (omega (arith, mul-le-mul_right z.den h.above.cross, ap (λ (t : ℕ). t * (d.den * p.den)) same.cross)) y.pos in
    never _ _ e cross

too_low : {p y z d : Fraction} → Within p y d → Same y z → leb (z.num * (plus p d).den) ((plus p d).num * z.den) ≡ false → ⊥
too_low {p = p} {y = y} {z = z} {d = d} h same e =
    let cross : z.num * (plus p d).den ≤ (plus p d).num * z.den =
    le_of_mul-le-mul_right {k = y.den} (omega (arith, mul-le-mul_right z.den h.below.cross, ap (λ (t : ℕ). t * (p.den * d.den)) same.cross)) y.pos in
    never _ _ e cross

-- 2. B's moments: each within 3N + 2r + 3 ticks of the average up to level N, and within the tolerance and as many ticks of that up to every later level.

-- the averages of the first moment, state 1 and r = 1, and of the last, state 2 and r = 2, up to levels 3 and 4
pub first_averages : (h : 0 < max_reward model_b) → Same (average model_b h 3 1 0) (ratio 23 32 (lit< tt)) × Same (average model_b h 4 1 0) (ratio 233 325 (lit< tt))
unfolding sum largest big distributions jump_rate row_sum uniform_rate c max_reward jump_millionths total power exact_mean exact_share exact_mix exact_first exact_next exact_u factorial exact_weight average_of average
first_averages h = (record { cross = refl }, record { cross = refl })

pub last_averages : (h : 0 < max_reward model_b) → Same (average model_b h 3 2 1) (ratio 7 40 (lit< tt)) × Same (average model_b h 4 2 1) (ratio 57 325 (lit< tt))
unfolding sum largest big distributions jump_rate row_sum uniform_rate c max_reward jump_millionths total power exact_mean exact_share exact_mix exact_first exact_next exact_u factorial exact_weight average_of average
last_averages h = (record { cross = refl }, record { cross = refl })

-- B's cells with another first moment, and with another last one
abbrev first : ℕ → List ℕ
first p = p ∷ 612500000000 ∷ 281250000000 ∷ 175000000000 ∷ []

abbrev last : ℕ → List ℕ
last p = 718750000000 ∷ 612500000000 ∷ 281250000000 ∷ p ∷ []

-- one tick more than 14 for r = 1, and than 16 for r = 2
pub first_above : Promise file_b 3 (first 718750000015) → ⊥
unfolding cell_of big distributions
first_above h = too_high (h.close 0 1 (omega arith) (omega arith) (omega arith)).at_level (first_averages h.rewarded).0 refl

pub first_below : Promise file_b 3 (first 718749999985) → ⊥
unfolding cell_of big distributions
first_below h = too_low (h.close 0 1 (omega arith) (omega arith) (omega arith)).at_level (first_averages h.rewarded).0 refl

pub last_above : Promise file_b 3 (last 175000000017) → ⊥
unfolding cell_of big distributions
last_above h = too_high (h.close 1 2 (omega arith) (omega arith) (omega arith)).at_level (last_averages h.rewarded).0 refl

pub last_below : Promise file_b 3 (last 174999999983) → ⊥
unfolding cell_of big distributions
last_below h = too_low (h.close 1 2 (omega arith) (omega arith) (omega arith)).at_level (last_averages h.rewarded).0 refl

-- one tick more than a tenth and so many, at level 4
pub first_later_above : Promise file_b 3 (first 816923076938) → ⊥
unfolding cell_of big distributions
first_later_above h = too_high ((h.close 0 1 (omega arith) (omega arith) (omega arith)).past_level 4 (omega arith)) (first_averages h.rewarded).1 refl

pub first_later_below : Promise file_b 3 (first 616923076909) → ⊥
unfolding cell_of big distributions
first_later_below h = too_low ((h.close 0 1 (omega arith) (omega arith) (omega arith)).past_level 4 (omega arith)) (first_averages h.rewarded).1 refl

pub last_later_above : Promise file_b 3 (last 275384615401) → ⊥
unfolding cell_of big distributions
last_later_above h = too_high ((h.close 1 2 (omega arith) (omega arith) (omega arith)).past_level 4 (omega arith)) (last_averages h.rewarded).1 refl

pub last_later_below : Promise file_b 3 (last 75384615368) → ⊥
unfolding cell_of big distributions
last_later_below h = too_low ((h.close 1 2 (omega arith) (omega arith) (omega arith)).past_level 4 (omega arith)) (last_averages h.rewarded).1 refl

-- and so at every later level
pub every_later : (L : ℕ) → 3 ≤ L → (h : Promise file_b 3 (first 718750000000)) → Within (ticks 718750000000) (average model_b h.rewarded L 1 0) (plus (tolerance_of model_b) (rounding_ticks 3 1))
unfolding cell_of
every_later L past h = (h.close 0 1 (omega arith) (omega arith) (omega arith)).past_level L (omega (arith, past))

-- one tick less, and the first moment is within
pub first_within :
    (h : 0 < max_reward model_b)
    → Within (ticks 718750000014) (average model_b h 3 1 0) (rounding_ticks 3 1)
    × Within (ticks 718749999986) (average model_b h 3 1 0) (rounding_ticks 3 1)
first_within h =
    let same = (first_averages h).0.cross in
    (record { above = record { cross = omega (arith, same) }; below = record { cross = omega (arith, same) } }, record { above = record { cross = omega (arith, same) }; below = record { cross = omega (arith, same) } })

-- no moment is above 1: A's, by a tick
pub above_one : Promise file_a 1 (1000000000001 ∷ []) → ⊥
unfolding cell_of
above_one h = omega (arith, (h.close 0 1 (omega arith) (omega arith) (omega arith)).at_most_one.cross)

-- 3. The start figures, which may lose one tick more: B with the weights 250,000 and 750,000.

abbrev start_model : Model
start_model = model_of start_b

pub first_start_averages : (h : 0 < max_reward start_model) → Same (start_average start_model h 3 1) (ratio 25 64 (lit< tt)) × Same (start_average start_model h 4 1) (ratio 509 1300 (lit< tt))
unfolding sum largest big distributions jump_rate row_sum uniform_rate c max_reward jump_millionths total power exact_mean exact_share exact_mix exact_first exact_next exact_u factorial exact_weight average_of average start_average
first_start_averages h = (record { cross = refl }, record { cross = refl })

pub last_start_averages : (h : 0 < max_reward start_model) → Same (start_average start_model h 3 2) (ratio 91 320 (lit< tt)) × Same (start_average start_model h 4 2) (ratio 369 1300 (lit< tt))
unfolding sum largest big distributions jump_rate row_sum uniform_rate c max_reward jump_millionths total power exact_mean exact_share exact_mix exact_first exact_next exact_u factorial exact_weight average_of average start_average
last_start_averages h = (record { cross = refl }, record { cross = refl })

abbrev first_start : ℕ → List ℕ
first_start p = 718750000000 ∷ 612500000000 ∷ 281250000000 ∷ 175000000000 ∷ p ∷ 284375000000 ∷ []

abbrev last_start : ℕ → List ℕ
last_start p = 718750000000 ∷ 612500000000 ∷ 281250000000 ∷ 175000000000 ∷ 390625000000 ∷ p ∷ []

-- one tick more than 15 for r = 1, and than 17 for r = 2
pub first_start_above : Promise start_b 3 (first_start 390625000016) → ⊥
unfolding cell_of big distributions
first_start_above h = too_high (h.start_close 1 (omega arith) (omega arith) (omega arith)).at_level (first_start_averages h.rewarded).0 refl

pub first_start_below : Promise start_b 3 (first_start 390624999984) → ⊥
unfolding cell_of big distributions
first_start_below h = too_low (h.start_close 1 (omega arith) (omega arith) (omega arith)).at_level (first_start_averages h.rewarded).0 refl

pub last_start_above : Promise start_b 3 (last_start 284375000018) → ⊥
unfolding cell_of big distributions
last_start_above h = too_high (h.start_close 2 (omega arith) (omega arith) (omega arith)).at_level (last_start_averages h.rewarded).0 refl

pub last_start_below : Promise start_b 3 (last_start 284374999982) → ⊥
unfolding cell_of big distributions
last_start_below h = too_low (h.start_close 2 (omega arith) (omega arith) (omega arith)).at_level (last_start_averages h.rewarded).0 refl

-- one tick more than a tenth and so many, at level 4
pub first_start_later_above : Promise start_b 3 (first_start 491538461554) → ⊥
unfolding cell_of big distributions
first_start_later_above h = too_high ((h.start_close 1 (omega arith) (omega arith) (omega arith)).past_level 4 (omega arith)) (first_start_averages h.rewarded).1 refl

pub first_start_later_below : Promise start_b 3 (first_start 291538461523) → ⊥
unfolding cell_of big distributions
first_start_later_below h = too_low ((h.start_close 1 (omega arith) (omega arith) (omega arith)).past_level 4 (omega arith)) (first_start_averages h.rewarded).1 refl

pub last_start_later_above : Promise start_b 3 (last_start 383846153864) → ⊥
unfolding cell_of big distributions
last_start_later_above h = too_high ((h.start_close 2 (omega arith) (omega arith) (omega arith)).past_level 4 (omega arith)) (last_start_averages h.rewarded).1 refl

pub last_start_later_below : Promise start_b 3 (last_start 183846153829) → ⊥
unfolding cell_of big distributions
last_start_later_below h = too_low ((h.start_close 2 (omega arith) (omega arith) (omega arith)).past_level 4 (omega arith)) (last_start_averages h.rewarded).1 refl

-- and so at every later level
pub every_start_later : (L : ℕ) → 3 ≤ L → (h : Promise start_b 3 (first_start 390625000000)) → Within (ticks 390625000000) (start_average start_model h.rewarded L 1) (plus (tolerance_of start_model) (start_ticks 3 1))
unfolding cell_of distributions
every_start_later L past h = (h.start_close 1 (omega arith) (omega arith) (omega arith)).past_level L (omega (arith, past))

-- no start figure is above 1
pub start_above_one : Promise start_b 3 (last_start 1000000000001) → ⊥
unfolding cell_of distributions
start_above_one h = omega (arith, (h.start_close 2 (omega arith) (omega arith) (omega arith)).at_most_one.cross)

-- 4. B with the times 1 and 2: "each block and level equals a run of the file with that time alone", and demand 3 holds of each.

-- the average of the last moment at time 2, up to its level 4
pub second_average : (h : 0 < max_reward (model_of (with_time file_b 2))) → Same (average (model_of (with_time file_b 2)) h 4 2 1) (ratio 23 105 (lit< tt))
unfolding sum largest big distributions jump_rate row_sum uniform_rate c max_reward jump_millionths total power exact_mean exact_share exact_mix exact_first exact_next exact_u factorial exact_weight average_of average bytes_of with_time
second_average h = record { cross = refl }

-- both blocks with one cell past them, and another last moment
abbrev both : ℕ → List ℕ
both p = 718750000000 ∷ 612500000000 ∷ 281250000000 ∷ 175000000000 ∷ 628571428571 ∷ 476190476190 ∷ 371428571428 ∷ p ∷ 7 ∷ []

-- the first block, by one tick more than 14, and the second by one more than 19
pub first_block_above : SeriesPromised (accepted 16) file_b (1 ∷ 2 ∷ []) (3 ∷ 4 ∷ []) (first 718750000015) → ⊥
unfolding cell_of big bytes_of distributions with_time
first_block_above h = too_high ((h 0 (omega arith)).close 0 1 (omega arith) (omega arith) (omega arith)).at_level (first_averages (h 0 (omega arith)).rewarded).0 refl

pub second_block_above : SeriesPromised (accepted 16) file_b (1 ∷ 2 ∷ []) (3 ∷ 4 ∷ []) (both 219047619067) → ⊥
unfolding cell_of big bytes_of distributions with_time
second_block_above h = too_high ((h 1 (omega arith)).close 1 2 (omega arith) (omega arith) (omega arith)).at_level (second_average (h 1 (omega arith)).rewarded) refl

pub second_block_below : SeriesPromised (accepted 16) file_b (1 ∷ 2 ∷ []) (3 ∷ 4 ∷ []) (both 219047619028) → ⊥
unfolding cell_of big bytes_of distributions with_time
second_block_below h = too_low ((h 1 (omega arith)).close 1 2 (omega arith) (omega arith) (omega arith)).at_level (second_average (h 1 (omega arith)).rewarded) refl

-- another level, the first and the last, and another last cell, by a tick
pub first_level : AreRuns (accepted 16) file_b (1 ∷ 2 ∷ []) (4 ∷ 4 ∷ []) (replicate 9 7) (both 219047619047) → ⊥
unfolding sum largest any_above firsts over big bytes_of with_time distributions jump_rate row_sum uniform_rate jump_millionths framing quantities jumps room rows first_held row_means mode rightward leftward weight weight_sum tail_bound allowance passes? first_from level model_level outcome
first_level h = omega (arith, ap (λ (a : Answer Run). count_after (saying (λ x. x.level) a) 0) (h 0 (omega arith)).same_level)

pub second_level : AreRuns (accepted 16) file_b (1 ∷ 2 ∷ []) (3 ∷ 5 ∷ []) (replicate 9 7) (both 219047619047) → ⊥
unfolding sum largest any_above firsts over big bytes_of with_time distributions jump_rate row_sum uniform_rate jump_millionths framing quantities jumps room rows first_held row_means mode rightward leftward weight weight_sum tail_bound allowance passes? first_from level model_level outcome
second_level h = omega (arith, ap (λ (a : Answer Run). count_after (saying (λ x. x.level) a) 0) (h 1 (omega arith)).same_level)

pub second_block : AreRuns (accepted 16) file_b (1 ∷ 2 ∷ []) (3 ∷ 4 ∷ []) (replicate 9 7) (both 219047619048) → ⊥
unfolding sum largest any_above firsts over big bytes_of with_time distributions jump_rate row_sum uniform_rate c max_reward jump_millionths framing quantities jumps room rows first_held row_mean reward_share mix next_entry first_vectors next_vectors U row_means mode rightward leftward weight weight_sum tail_bound allowance passes? first_from level term weighted nearest last_quotient weighted_mean moment figure_of cell model_level outcome cells_after
second_block h = omega (arith, ap (λ (l : List ℕ). get_or l 3 0) (h 1 (omega arith)).same_block)

-- 5. "The level is at most 2 × m + 51": 53 for B, whose m is 1, and 55 at time 2.

pub bound_reached : LevelBounded (accepted 53) file_b
unfolding sum largest big bytes_of with_time distributions jump_rate row_sum uniform_rate jump_millionths mode
bound_reached = omega arith

pub bound_passed : LevelBounded (accepted 54) file_b → ⊥
unfolding sum largest big bytes_of with_time distributions jump_rate row_sum uniform_rate jump_millionths mode
bound_passed h = omega (arith, h)

pub first_bound_passed : LevelsBounded (accepted 16) file_b (1 ∷ 2 ∷ []) (54 ∷ 4 ∷ []) → ⊥
unfolding sum largest big bytes_of with_time distributions jump_rate row_sum uniform_rate jump_millionths mode
first_bound_passed h = omega (arith, h 0 (omega arith))

pub second_bound_passed : LevelsBounded (accepted 16) file_b (1 ∷ 2 ∷ []) (3 ∷ 56 ∷ []) → ⊥
unfolding sum largest big bytes_of with_time distributions jump_rate row_sum uniform_rate jump_millionths mode
second_bound_passed h = omega (arith, h 1 (omega arith))

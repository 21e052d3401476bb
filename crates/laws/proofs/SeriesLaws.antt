-- Document 02, S-3: demand 3 holds of each level and block of a series, and each level is at most 2m + 51.
use Rattle.std.specs.Prelude.{ℕ, ◌<◌, ◌≡◌, length, get_or, List}
use Rattle.definitions.specs.File.{with_time}
use Rattle.definitions.specs.Rules.{accepted, series_judgement}
use Rattle.definitions.specs.Promise.{Promise}
use Rattle.definitions.specs.Series.{model_at, level_at, levels_after, blocks_after, block, SeriesPromised, LevelsBounded}
use Rattle.laws.specs.ListLaws.{get_d_over}
use Rattle.laws.specs.Acceptance.{accepted_series}
use Rattle.laws.proofs.MomentLaws.{level_bounded}
use Rattle.laws.proofs.Demand3.{demand3}
use Rattle.laws.specs.SeriesLaws.{judged, level_in, block_in, size}

module _ (s times levels cells : List ℕ) (passed : series_judgement s times (length levels) (length cells) ≡ accepted tt) (k : ℕ) (h : k < length times) where
  promise : (n : ℕ) → Promise (with_time s (get_or times k 0)) (get_or (levels_after (accepted n) s times levels) k 0) (block s (blocks_after (accepted n) s times cells) k)
  promise n = rw (level_in s times levels cells passed k h n, block_in s times levels cells passed k h n) (demand3 (with_time s (get_or times k 0)) (block s cells k) (rw (size s times levels cells passed k h) (judged s times levels cells passed k h)))

-- demand 3 holds of it
pub series_promised : (s times levels cells : List ℕ) (n : ℕ) → series_judgement s times (length levels) (length cells) ≡ accepted tt → SeriesPromised (accepted n) s times (levels_after (accepted n) s times levels) (blocks_after (accepted n) s times cells)
series_promised s times levels cells n passed k h = promise s times levels cells passed k h n

-- and its level is at most 2m + 51 (S-8)
pub series_bounded : (s times levels : List ℕ) (cells n : ℕ) → series_judgement s times (length levels) cells ≡ accepted tt → LevelsBounded (accepted n) s times (levels_after (accepted n) s times levels)
unfolding levels_after level_at
series_bounded s times levels cells n passed k h =
    rw (get_d_over 0 (length times) (level_at s times) levels k h) (level_bounded (model_at s times k) ((accepted_series s times (length levels) cells passed).limits k h))

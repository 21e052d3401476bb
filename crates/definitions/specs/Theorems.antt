-- The sentences of the papers that no call's contract says, a field for each, with the paper's words. The crate laws gives the one inhabitant.
use Rattle.std.specs.Prelude.{ℕ, suc, ◌+◌, ◌*◌, ◌-◌, ◌/◌, ◌≤◌, ◌<◌, List, ◌≡◌, get_or, take}
use Rattle.definitions.specs.declared.Run.{Run}
use Rattle.definitions.specs.Sums.{sum}
use Rattle.definitions.specs.Chain.{Model, model_of, Chain, uniform_rate, c, max_reward}
use Rattle.definitions.specs.Rules.{accepted, refused, file_judgement, judgement}
use Rattle.definitions.specs.Vectors.{ONE, U, row_means}
use Rattle.definitions.specs.Level.{BILLION, IsLevel, level}
use Rattle.definitions.specs.Moment.{nearest, WithinHalf, moment, start_figure}
use Rattle.definitions.specs.Fraction.{AtMost, ratio, times, total}
use Rattle.definitions.specs.Average.{exact_weight}
use Rattle.definitions.specs.Promise.{billion_pos}
use Rattle.definitions.specs.Order.{NoLowerFigures}
use Rattle.definitions.specs.Convert.{moved_to_2}
use Rattle.definitions.specs.Practice.{practice_file, practice}
use Rattle.definitions.specs.Arrows.{arrows, ListsArrows, SameByArrows}
use Rattle.definitions.specs.Sheet.{lent_cells, read_limit}

pub record Theorems : Type 0 where
  -- document 01, "Chain": "Every row of c then sums to E."
  pub rows_sum : (m : Model) (i : ℕ) → i < m.states → sum m.states (c m i) ≡ uniform_rate m
  -- "Reward vectors": "U(n,0) is ONE everywhere."
  pub vector_zero : (ch : Chain) (n i : ℕ) → U ch n 0 i ≡ ONE
  -- "U(0,r) at i is f(i) × U(0,r−1) at i, over F, down."
  pub vector_first : (ch : Chain) (r i : ℕ) → U ch 0 (suc r) i ≡ ch.reward i * U ch 0 r i / ch.largest_reward
  -- "For n, r ≥ 1: V, the row mean, is the sum over j of c(i,j) × U(n−1,r) at j, over E, down; W is f(i) × U(n,r−1) at i, over F, down; U(n,r) at i is
  -- (n × V + r × W) over (n + r), down."
  pub vector_next :
      (ch : Chain) (n r i : ℕ) →
      U ch (suc n) (suc r) i
      ≡ (suc n * (sum ch.states (λ j. ch.entry i j * U ch n (suc r) j) / ch.rate) + suc r * (ch.reward i * U ch (suc n) r i / ch.largest_reward)) / (suc n + suc r)
  -- "Level": "N is the least n with n × 1,000,000 ≥ X and t ≤ S(n) × ε over 10^9 (down)"
  pub level_least : (X ε : ℕ) → X ≤ 256000000 → 1 ≤ ε → IsLevel X ε (level X ε)
  -- "Under the limits above such an n of at most 1,024 always exists, and this is to be proved"
  pub level_exists : (X ε : ℕ) → X ≤ 256000000 → 1 ≤ ε → level X ε ≤ 1024
  -- "The calculation covered": "The rule below replaces it [relation (10) of the papers] and never gives a smaller level." Relation (10) takes the least n at
  -- which the weights up to n are at least 1 − ε of all weights. N is such an n: of the weights up to any later L, those up to N are at least that part.
  pub level_no_smaller :
      (X ε L : ℕ) → 1 ≤ X → X ≤ 256000000 → 1 ≤ ε → level X ε ≤ L →
      AtMost (times (ratio (BILLION - ε) BILLION billion_pos) (total (suc L) (exact_weight X))) (total (suc (level X ε)) (exact_weight X))
  -- "The call returns N as an accepted outcome, which no refusal equals, whatever its number."
  pub no_refusal : (run : Run) (k : ℕ) → accepted run ≡ refused k → ⊥
  -- "The printed sheet": "lends 512 cells", with document 02, S-5, 520: no file that is accepted with other cells has too few of them
  pub cells_enough : (s : List ℕ) (cells : ℕ) → judgement s cells ≡ accepted tt → judgement s lent_cells ≡ accepted tt
  -- "at most 16,398 bytes, judged as read", with S-5 16,654: an accepted file is read whole, and no part of a longer input is accepted
  pub read_whole : (s : List ℕ) (cells : ℕ) → judgement s cells ≡ accepted tt → take read_limit s ≡ s
  pub read_no_part : (input : List ℕ) (cells : ℕ) → judgement (take read_limit input) cells ≡ accepted tt → take read_limit input ≡ input
  -- document 02, S-1: "rounded to the nearest tick, a half going up"
  pub nearest_within : (a d : ℕ) → 0 < d → WithinHalf a d (nearest a d)
  pub half_up : (a d n : ℕ) → 0 < d → 2 * a ≡ 2 * (n * d) + d → nearest a d ≡ n + 1
  -- S-5: "version 1 to version 2 with all weight on state 1": the start figures of a moved file, a list of bytes, are the moments of that state
  pub start_moved : (s : List ℕ) → ((k : ℕ) → get_or s k 0 < 256) → file_judgement 1 1 s ≡ accepted tt → (N r : ℕ) → start_figure (model_of (moved_to_2 s)) N r ≡ moment (model_of s) N r 0
  -- S-6: "for every seed number": every M and R within their limits deal the file, where the bytes lent are enough
  pub every_seed : (M R seed lent : ℕ) → 1 ≤ M → M ≤ 64 → 1 ≤ R → R ≤ 8 → 4 * (M * M) + 13 ≤ lent → practice M R seed lent ≡ accepted (practice_file M R seed)
  -- S-7: "for each row, every other state with a rate above 0 once, highest first, and no more"
  pub arrows_listed : (m : Model) (i : ℕ) → ListsArrows m i (arrows m i)
  -- "Vectors, levels and moments are shown equal to those of the old order"
  pub same_by_arrows : (m : Model) → SameByArrows m
  -- S-8: "one for each state, each r and each n from 1 to N"
  pub one_for_each : (N M R : ℕ) → row_means N M R ≡ sum N (λ n. sum M (λ i. sum R (λ r. 1)))
  -- S-9: "from each state the moment for r + 1 is at most the moment for r", of every model and at every level
  pub moment_falls : (m : Model) (N r i : ℕ) → i < m.states → moment m N (suc r) i ≤ moment m N r i
  -- "raising one state's reward rate, without passing the file's largest, lowers no moment of any state", likewise
  pub reward_raised : (m : Model) (i x : ℕ) → m.reward i ≤ x → x ≤ max_reward m → NoLowerFigures m i x

-- `refusals::judge_framing` meets its contract: rows 1 to 3, the dimensions, and row 6. Past a row's test the rows after it answer. Assumes nothing.
use Rattle.std.specs.Prelude.{ℕ, ◌-◌, ◌≤◌, ◌<◌, ◌≡◌, List, length, drop, Err}
use Rattle.std.proofs.Common.{◌∙◌, sym, arith, lt-ltb, le-ltb, rules}
use Rattle.definitions.specs.declared.Refusal.TheVariants.{TooShort}
use Rattle.definitions.specs.File.{length_field, state_count, highest_moment}
use Rattle.definitions.specs.Rules.{accepted, Rows, dimensions, fitting_length, framing, judged_by}
use Rattle.laws.specs.RuleLaws.{row_stops, row_passes, none_left, differ, agree, none_hold}
use Rattle.laws.specs.RowLaws.{in_dimensions}
use Rattle.laws.specs.Acceptance.{framed_by}
use Rattle.refusals.proofs.Parts.{first_refuses, second_answers}
use Rattle.refusals.proofs.judge_framing.Goals.{Else-length-bytes, Else-length-fitting_length, Else-outside, In_ok-head, In_ok-judge_dimensions, Start}
use Rattle.refusals.proofs.judge_framing.Goals as goal

abbrev file : Start → List ℕ
file start = start.args.bytes.now

-- the rows past the first k
abbrev past : Start → ℕ → Rows
past start k = drop k (framing start.args.low start.args.high (file start))

-- they answer
abbrev Left : Start → ℕ → Type 0
Left start k = judged_by (past start 0) ≡ judged_by (past start k)

-- rows 4 and 5
abbrev sizes : Start → Rows
sizes start = dimensions (state_count (file start)) (highest_moment (file start))

-- from the place past a row's test back to the start
abbrev start1 : In_ok-head → Start
start1 c = (goal.at.In_ok-head c).Start

abbrev start2 : Else-length-bytes → Start
start2 c = start1 (goal.at.Else-length-bytes c).In_ok-head

abbrev start3 : Else-outside → Start
start3 c = start2 (goal.at.Else-outside c).Else-length-bytes

abbrev start5 : In_ok-judge_dimensions → Start
start5 c = start3 (goal.at.In_ok-judge_dimensions c).Else-outside

-- the header is that of the file
is_file : (c : In_ok-head) → c.in_ok-head.head ≡ file (start1 c)
is_file c = search rules

long : (c : In_ok-head) → 13 ≤ length (file (start1 c))
long c = search rules

past_1 : (c : In_ok-head) → Left (start1 c) 1
unfolding framing
past_1 c = row_passes 1 _ _ _ (le-ltb (length (file (start1 c))) 13 (long c))

past_2 : (c : Else-length-bytes) → Left (start2 c) 2
unfolding framing
past_2 c =
    let s = file (start2 c) in
    let first = (goal.at.Else-length-bytes c).In_ok-head in
    let is : c.in_ok-head.head ≡ s = is_file first in
    past_1 first ∙ row_passes 2 _ _ _ (agree (length_field s) (length s - 2) (sym (rw is at c.length_field-length.ensures) ∙ c.if-length-bytes.false))

past_3 : (c : Else-outside) → Left (start3 c) 3
unfolding framing
past_3 c =
    let second = (goal.at.Else-outside c).Else-length-bytes in
    let is : c.in_ok-head.head ≡ file (start3 c) = is_file (goal.at.Else-length-bytes second).In_ok-head in
    past_2 second ∙ row_passes 3 _ _ _ (rw (c.version.ensures, is) at (sym c.outside.ensures ∙ c.if-outside.false))

module _ (c : In_ok-judge_dimensions) where
  is_file_5 : c.in_ok-head.head ≡ file (start5 c)
  is_file_5 = is_file (goal.at.Else-length-bytes (goal.at.Else-outside (goal.at.In_ok-judge_dimensions c).Else-outside).Else-length-bytes).In_ok-head

  passed : accepted tt ≡ judged_by (sizes (start5 c))
  passed = rw (c.state_count.ensures, c.highest_moment.ensures, is_file_5) at c.in_ok-judge_dimensions.ensures

  past_5 : Left (start5 c) 5
  unfolding framing
  past_5 = past_3 (goal.at.In_ok-judge_dimensions c).Else-outside ∙ sym (second_answers (sizes (start5 c)) (past (start5 c) 5) tt tt tt passed)

  -- where the length fits, no row holds
  all_pass : length_field (file (start5 c)) ≡ fitting_length (file (start5 c)) → judged_by (framing (start5 c).args.low (start5 c).args.high (file (start5 c))) ≡ accepted tt
  unfolding framing
  all_pass fits = past_5 ∙ row_passes 6 _ _ _ (agree _ _ fits) ∙ none_left tt

pub returns-in_err-head-clause-judged : goal.returns-in_err-head-clause-judged
unfolding framing
returns-in_err-head-clause-judged c =
    let short : length c.args.bytes.now < 13 = search rules in
    let gave : c.from_residual.result ≡ Err TooShort = search rules in
    rw gave (sym (row_stops 1 _ _ _ (lt-ltb (length c.args.bytes.now) 13 short)))

pub returns-then-length-bytes-clause-judged : goal.returns-then-length-bytes-clause-judged
unfolding framing
returns-then-length-bytes-clause-judged c =
    let s = c.args.bytes.now in
    let first = (goal.at.returns-then-length-bytes-clause-judged c).In_ok-head in
    let is : c.in_ok-head.head ≡ s = is_file first in
    let read : c.length_field-length.result ≡ length_field s = rw is at c.length_field-length.ensures in
    sym (past_1 first ∙ row_stops 2 _ _ _ (differ (length_field s) (length s - 2) (λ e. c.if-length-bytes.true (read ∙ e))))

pub returns-then-outside-clause-judged : goal.returns-then-outside-clause-judged
unfolding framing
returns-then-outside-clause-judged c =
    let second = (goal.at.returns-then-outside-clause-judged c).Else-length-bytes in
    let is : c.in_ok-head.head ≡ c.args.bytes.now = is_file (goal.at.Else-length-bytes second).In_ok-head in
    sym (past_2 second ∙ row_stops 3 _ _ _ (rw (c.version.ensures, is) at (sym c.outside.ensures ∙ c.if-outside.true)))

pub returns-in_err-judge_dimensions-clause-judged : goal.returns-in_err-judge_dimensions-clause-judged
unfolding framing
returns-in_err-judge_dimensions-clause-judged c =
    let third = (goal.at.returns-in_err-judge_dimensions-clause-judged c).Else-outside in
    let start = start3 third in
    let is : c.in_ok-head.head ≡ file start = is_file (goal.at.Else-length-bytes (goal.at.Else-outside third).Else-length-bytes).In_ok-head in
    let gave : c.from_residual-in_err-judge_dimensions.result ≡ Err c.in_err-judge_dimensions.field-0.0 = search rules in
    rw gave (first_refuses (sizes start) (past start 5) tt tt _ (rw (c.state_count.ensures, c.highest_moment.ensures, is) at c.in_err-judge_dimensions.ensures) ∙ sym (past_3 third))

pub fitting_length-requires : goal.fitting_length-requires
fitting_length-requires c =
    let d = (goal.at.fitting_length-requires c).In_ok-judge_dimensions in
    let s = file (start5 d) in
    rw (is_file_5 d) (omega (arith, in_dimensions (state_count s) (highest_moment s) (sym (passed d))))

pub returns-then-length-fitting_length-clause-judged : goal.returns-then-length-fitting_length-clause-judged
unfolding framing
returns-then-length-fitting_length-clause-judged c =
    let d = (goal.at.returns-then-length-fitting_length-clause-judged c).In_ok-judge_dimensions in
    let s = file (start5 d) in
    let is : c.in_ok-head.head ≡ s = is_file_5 d in
    let read : c.length_field-length.result ≡ length_field s = rw is at c.length_field-length.ensures in
    let fitting : c.fitting_length.result ≡ fitting_length s = rw is at c.fitting_length.ensures in
    sym (past_5 d ∙ row_stops 6 _ _ _ (differ (length_field s) (fitting_length s) (λ e. c.if-length-fitting_length.true (read ∙ e ∙ sym fitting))))

-- the length fits, so no row holds
none_holds : (c : Else-length-fitting_length) →
    let start = start5 (goal.at.Else-length-fitting_length c).In_ok-judge_dimensions in
    judged_by (framing start.args.low start.args.high (file start)) ≡ accepted tt
none_holds c =
    let d = (goal.at.Else-length-fitting_length c).In_ok-judge_dimensions in
    let is : c.in_ok-head.head ≡ file (start5 d) = is_file_5 d in
    let read : c.length_field-length.result ≡ length_field (file (start5 d)) = rw is at c.length_field-length.ensures in
    let fitting : c.fitting_length.result ≡ fitting_length (file (start5 d)) = rw is at c.fitting_length.ensures in
    all_pass d (sym read ∙ c.if-length-fitting_length.false ∙ fitting)

pub invariant_of-result : goal.invariant_of-result
invariant_of-result c =
    let args = c.args in
    let s = args.bytes.now in
    let is : c.in_ok-head.head ≡ s = is_file_5 (goal.at.Else-length-fitting_length c).In_ok-judge_dimensions in
    rw is (framed_by args.low args.high s (none_hold (framing args.low args.high s) (tt {0}) tt (none_holds c)))

pub returns-clause-judged : goal.returns-clause-judged
returns-clause-judged c = sym (none_holds (goal.at.returns-clause-judged c).Else-length-fitting_length)

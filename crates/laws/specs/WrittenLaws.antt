-- What a call answers that writes a file, for any table and any file.
use Rattle.std.specs.Prelude.{ℕ, ◌≤◌, ◌<◌, ◌≡◌, refl, List, ◌++◌, length}
use Rattle.std.proofs.Common.{◌∙◌, lt-ltb, le-ltb}
use Rattle.definitions.specs.Rules.{accepted, refused, Rows, room, first_held, judged_by}
use Rattle.definitions.specs.Written.{file_for}
use Rattle.laws.specs.RuleLaws.{and_then, row_stops, row_passes, none_left, in_parts, NoneHold, none_hold, accepted_value, none_in_parts}

module _ (table : Rows) (file : List ℕ) (lent : ℕ) where
  -- its table's refusal, or what row 13 says of the bytes that are lent
  written_in_parts : file_for table file lent ≡ and_then (judged_by table) (first_held (room (length file) lent) file)
  unfolding file_for
  written_in_parts = in_parts table (room (length file) lent) tt file

  -- where the table refuses
  pub stopped_by_table : (k : ℕ) → judged_by table ≡ refused k → file_for table file lent ≡ refused k
  stopped_by_table k e = written_in_parts ∙ rw e refl

  -- where it accepts, and too few bytes are lent
  pub stopped_by_room : judged_by table ≡ accepted tt → lent < length file → file_for table file lent ≡ refused 13
  unfolding room
  stopped_by_room e few = written_in_parts ∙ rw e (row_stops 13 _ _ file (lt-ltb lent (length file) few))

  -- and where enough are lent
  pub is_written : judged_by table ≡ accepted tt → length file ≤ lent → file_for table file lent ≡ accepted file
  unfolding room
  is_written e enough = written_in_parts ∙ rw e (row_passes 13 _ _ file (le-ltb lent (length file) enough) ∙ none_left file)

  -- a file is written where no row of the table holds
  pub was_written : (t : List ℕ) → file_for table file lent ≡ accepted t → NoneHold table × (file ≡ t)
  unfolding file_for
  was_written t e = ((none_in_parts table (room (length file) lent) (none_hold (table ++ room (length file) lent) file t e)).0, accepted_value (table ++ room (length file) lent) file t e)

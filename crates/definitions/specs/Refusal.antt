-- "What stops a file": the number of each row of the tables, as the papers count them.
use Rattle.std.specs.Prelude.{ℕ}
use Rattle.definitions.specs.declared.Refusal.{Refusal}
use Rattle.definitions.specs.declared.Refusal.TheVariants.{TooShort, LengthField, Version, States, HighestMoment, Size, Tolerance, Time, RewardTooLarge, NoReward, RatesTooLarge, TooManyJumps, Room, TimesCount, TimesOrder, StartWeights, WeightElsewhere, Pair, Hours, Window}

abbrev pub row_of : Refusal → ℕ
row_of TooShort = 1
row_of LengthField = 2
row_of Version = 3
row_of States = 4
row_of HighestMoment = 5
row_of Size = 6
row_of Tolerance = 7
row_of Time = 8
row_of RewardTooLarge = 9
row_of NoReward = 10
row_of RatesTooLarge = 11
row_of TooManyJumps = 12
row_of Room = 13
row_of TimesCount = 14
row_of TimesOrder = 15
row_of StartWeights = 16
row_of WeightElsewhere = 17
row_of Pair = 20
row_of Hours = 21
row_of Window = 22

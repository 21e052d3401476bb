-- "What stops a file": the table's rows in its order, in parts that the tables of several calls share, and what a table answers.
use Rattle.std.specs.Prelude.{ℕ, zero, suc, ◌+◌, ◌*◌, ◌-◌, List, [], ◌∷◌, ◌++◌, Bool, false, not, ◌&&◌, ◌||◌, length, get_or, ltb, leb, eqb, Result, Ok, Err}
use Rattle.definitions.specs.declared.Refusal.{Refusal}
use Rattle.definitions.specs.Refusal.{row_of}
use Rattle.definitions.specs.Sums.{sum, any_above, pick}
use Rattle.definitions.specs.File.{length_field, version, state_count, highest_moment, time_field, distributions}
use Rattle.definitions.specs.Chain.{Model, model_of, row_sum, uniform_rate, block_of}

-- the answer of a call: accepted, with what the call then returns, or refused, with the number of a row. No refusal is an acceptance, whatever its number.
pub data Answer (A : Type 0) : Type 0 where
  accepted : A → Answer A
  refused : ℕ → Answer A

-- the answer that says f of what an answer says
abbrev pub saying : {A B : Type 0} → (A → B) → Answer A → Answer B
saying f (accepted a) = accepted (f a)
saying f (refused k) = refused k

-- rows of a table: each number with the condition that it is held by
abbrev pub Rows : Type 0
Rows = List (ℕ × Bool)

-- a number that is not from low to high
abbrev pub outside : ℕ → ℕ → ℕ → Bool
outside low high x = ltb x low || ltb high x

-- row 4: M
abbrev pub state_row : ℕ → Rows
state_row M = (4, outside 1 64 M) ∷ []

-- rows 4 and 5, the dimensions: M and R
abbrev pub dimensions : ℕ → ℕ → Rows
dimensions M R =
    (4, outside 1 64 M)
    ∷ (5, outside 1 8 R)
    ∷ []

-- what the length field of a file holds: 4 × M × M + 11, and 4 × M for each starting distribution
abbrev pub fitting_length : List ℕ → ℕ
fitting_length s = 4 * state_count s * state_count s + 4 * (distributions s * state_count s) + 11

-- rows 1 to 6, the framing: length, version, M and R, for a call that admits the versions from low to high
unfoldable pub framing : ℕ → ℕ → List ℕ → Rows
framing low high s =
    (1, ltb (length s) 13)
    ∷ (2, not (eqb (length_field s) (length s - 2)))
    ∷ (3, outside low high (version s))
    ∷ (dimensions (state_count s) (highest_moment s)
    ++ (6, not (eqb (length_field s) (fitting_length s)))
    ∷ [])

-- whether a list of times starts with 0. One without a time does not.
abbrev pub starts_at_zero : List ℕ → Bool
starts_at_zero [] = false
starts_at_zero (first ∷ later) = eqb first 0

-- row 16: the model has a starting distribution, and its weights do not sum to 1,000,000
abbrev pub misweighted : Model → Bool
misweighted m = ltb 0 m.distributions && not (eqb (sum m.states m.start) 1000000)

-- rows 7, 8, 16 and 9 to 11, the quantities: tolerance, time, starting weights, rewards and rates of a model, lent with a list of times
-- (without one: an empty list)
unfoldable pub quantities : Model → List ℕ → Rows
quantities m times =
    (7, outside 1 100000000 m.tolerance)
    ∷ (8, eqb m.time 0 || starts_at_zero times)
    ∷ (16, misweighted m)
    ∷ (9, any_above 1000000 m.states m.reward)
    ∷ (10, not (any_above 0 m.states m.reward))
    ∷ (11, any_above 10000000 m.states (row_sum m))
    ∷ []

-- whether one of the times 1 to n, counted from 0, is not above the one before it
unfoldable pub falls_up_to : ℕ → List ℕ → Bool
falls_up_to zero times = false
falls_up_to (suc n) times = falls_up_to n times || leb (get_or times (suc n) 0) (get_or times n 0)

-- rows 14 and 15, the list of times: how many there are, and that each is above the one before it
unfoldable pub listing : List ℕ → Rows
listing times =
    (14, outside 1 8 (length times))
    ∷ (15, falls_up_to (length times - 1) times)
    ∷ []

-- the last time of a list
abbrev pub last_time : List ℕ → ℕ
last_time times = get_or times (length times - 1) 0

-- row 12, the jumps: E × T, for a time T
unfoldable pub jumps : ℕ → ℕ → Rows
jumps E T = (12, ltb 256000000 (E * T)) ∷ []

-- row 13, the room: fewer lent than needed
unfoldable pub room : ℕ → ℕ → Rows
room needed lent = (13, ltb lent needed) ∷ []

-- the cells of one block of the file s
abbrev pub block_size : List ℕ → ℕ
block_size s = block_of (model_of s)

-- rows 1 to 12, with 16: the table of a call that takes the file s, admits the versions from low to high, and needs no room for its answer
abbrev pub file_rows : ℕ → ℕ → List ℕ → Rows
file_rows low high s = framing low high s ++ quantities (model_of s) [] ++ jumps (uniform_rate (model_of s)) (time_field s)

-- the table of a call that takes the file s of either version, lent with a number of answer cells, and fills its block
unfoldable pub rows : List ℕ → ℕ → Rows
rows s cells = file_rows 1 2 s ++ room (block_size s) cells

-- the table of a call that takes the file s of either version and a list of times, lent with a number of level cells and of block cells, and fills a level
-- and a block for each time (S-3). Row 13 stands for the blocks, and for the levels.
unfoldable pub series_rows : List ℕ → List ℕ → ℕ → ℕ → Rows
series_rows s times levels cells =
    framing 1 2 s
    ++ quantities (model_of s) times
    ++ listing times
    ++ jumps (uniform_rate (model_of s)) (last_time times)
    ++ room (length times * block_size s) cells
    ++ room (length times) levels

-- the first row that holds, as its number; where none does, accepted with a
unfoldable pub first_held : {A : Type 0} → Rows → A → Answer A
first_held [] a = accepted a
first_held (row ∷ later) a = pick row.1 (refused row.0) (first_held later a)

-- what a table says: accepted, or the first row that holds
abbrev pub judged_by : Rows → Answer (Unit {0})
judged_by table = first_held table tt

-- what these rows say of the file s, for a call that admits the versions from low to high
unfoldable pub file_judgement : ℕ → ℕ → List ℕ → Answer (Unit {0})
file_judgement low high s = judged_by (file_rows low high s)

-- what the table says of the file s lent with a number of answer cells
unfoldable pub judgement : List ℕ → ℕ → Answer (Unit {0})
judgement s cells = judged_by (rows s cells)

-- what the series' table says of the file s and the list of times, lent with a number of level cells and of block cells
unfoldable pub series_judgement : List ℕ → List ℕ → ℕ → ℕ → Answer (Unit {0})
series_judgement s times levels cells = judged_by (series_rows s times levels cells)

-- the papers' answer for each case of what a call hands back: accepted with what Ok holds, or refused with the number of the refusal's row
abbrev pub answer_of : {A : Type 0} → Result A Refusal → Answer A
answer_of (Ok a) = accepted a
answer_of (Err e) = refused (row_of e)

-- "The printed sheet": its bytes, and what a printed figure denotes.
use Rattle.std.specs.Prelude.{ℕ, zero, suc, ◌+◌, ◌/◌, ◌%◌, ◌^◌, ◌<◌, List, [], ◌∷◌, ◌++◌, true, ◌≡◌, length, take, get_or, replicate, eqb, ltb}
use Rattle.std.proofs.Math.Nat.{one-le-pow}
use Rattle.std.proofs.Common.{arith}
use Rattle.definitions.specs.declared.Run.{Run}
use Rattle.definitions.specs.Sums.{pick}
use Rattle.definitions.specs.File.{state_count, highest_moment}
use Rattle.definitions.specs.Rules.{Answer, accepted, refused, block_size}
use Rattle.definitions.specs.Moment.{outcome, cells_after}
use Rattle.definitions.specs.Fraction.{Fraction, Same, ratio, whole, plus}
use Rattle.definitions.specs.Promise.{ticks}
use Rattle.definitions.specs.Numeral.{all_digits, value_of}

-- the byte of the decimal digit of x that counts 10^p
unfoldable pub digit : ℕ → ℕ → ℕ
digit x p = 48 + x / 10 ^ p % 10

-- the last p decimal digits of x
unfoldable pub digits : ℕ → ℕ → List ℕ
digits x zero = []
digits x (suc p) = digit x p ∷ digits x p

-- how many digits x has in decimal; at most k + 1 are looked for
unfoldable pub places : ℕ → ℕ → ℕ
places x zero = 1
places x (suc k) = pick (ltb x (10 ^ suc k)) (places x k) (suc (suc k))

-- x in decimal (a 64-bit number has at most 20 digits)
unfoldable pub decimal : ℕ → List ℕ
decimal x = digits x (places x 19)

-- a figure of x ticks: a digit, a point and twelve digits
unfoldable pub figure : ℕ → List ℕ
figure x = digit x 12 ∷ 46 ∷ digits x 12

-- what stands before the first point of a text, and after it
unfoldable pub before_point : List ℕ → List ℕ
before_point [] = []
before_point (b ∷ later) = pick (eqb b 46) [] (b ∷ before_point later)

unfoldable pub after_point : List ℕ → List ℕ
after_point [] = []
after_point (b ∷ later) = pick (eqb b 46) later (after_point later)

pub ten_pos : (p : ℕ) → 0 < 10 ^ p
ten_pos p = one-le-pow p 10 (omega arith)

-- what a text says as a decimal: the number before its point, and the digits after it over 10 to their number
unfoldable pub decimal_of : List ℕ → Fraction
decimal_of text = plus (whole (value_of (before_point text))) (ratio (value_of (after_point text)) (10 ^ length (after_point text)) (ten_pos (length (after_point text))))

-- a text denotes x: but for the point it is digits, and as a decimal it is x
pub record Denotes (text : List ℕ) (x : Fraction) : Type 0 where
  pub number : all_digits (before_point text) ≡ true
  pub decimals : all_digits (after_point text) ≡ true
  pub value : Same (decimal_of text) x

-- how the lines of row i begin: with the number of the state, or past the M states with "start"
unfoldable pub label : ℕ → ℕ → List ℕ
label M i = pick (ltb i M) (decimal (i + 1)) (115 ∷ 116 ∷ 97 ∷ 114 ∷ 116 ∷ [])

-- one line: state or "start", r and the figure in cell k, parted by one space and ended by byte 0A
unfoldable pub figure_line : ℕ → ℕ → List ℕ → ℕ → List ℕ
figure_line M R cells k = label M (k / R) ++ 32 ∷ decimal (k % R + 1) ++ 32 ∷ figure (get_or cells k 0) ++ 10 ∷ []

-- the first n lines
unfoldable pub figure_lines : ℕ → ℕ → ℕ → List ℕ → List ℕ
figure_lines M R zero cells = []
figure_lines M R (suc n) cells = figure_lines M R n cells ++ figure_line M R cells n

-- a word and a number in decimal, ended by byte 0A
abbrev pub word_line : List ℕ → ℕ → List ℕ
word_line word n = word ++ (decimal n ++ 10 ∷ [])

-- "level " and N
unfoldable pub level_line : ℕ → List ℕ
level_line N = word_line (108 ∷ 101 ∷ 118 ∷ 101 ∷ 108 ∷ 32 ∷ []) N

-- "refused " and the number
unfoldable pub refused_line : ℕ → List ℕ
refused_line k = word_line (114 ∷ 101 ∷ 102 ∷ 117 ∷ 115 ∷ 101 ∷ 100 ∷ 32 ∷ []) k

-- the sheet of an answer, for M states, the highest moment R, a block of so many cells, and the cells after the call
unfoldable pub sheet_of : Answer Run → ℕ → ℕ → ℕ → List ℕ → List ℕ
sheet_of (accepted run) M R block cells = level_line run.level ++ figure_lines M R block cells
sheet_of (refused k) M R block cells = refused_line k

-- the program lends this many cells, and reads at most this many bytes
abbrev pub lent_cells : ℕ
lent_cells = 520

abbrev pub read_limit : ℕ
read_limit = 16654

-- what the calculator prints of the bytes that it read
unfoldable pub sheet : List ℕ → List ℕ
sheet s = sheet_of (outcome s lent_cells) (state_count s) (highest_moment s) (block_size s) (cells_after (outcome s lent_cells) s (replicate lent_cells 0))

-- of an answer: each figure that is printed denotes the number in its cell, in ticks
abbrev pub FiguresDenote : Answer Run → List ℕ → List ℕ → Type 0
FiguresDenote (accepted run) s cells = (k : ℕ) → k < block_size s → Denotes (figure (get_or cells k 0)) (ticks (get_or cells k 0))
FiguresDenote (refused k) s cells = Unit {0}

-- of the sheet of the file s
abbrev pub SheetDenotes : List ℕ → Type 0
SheetDenotes s = FiguresDenote (outcome s lent_cells) s (cells_after (outcome s lent_cells) s (replicate lent_cells 0))

-- what the program prints for the bytes on standard input
unfoldable pub printed_sheet : List ℕ → List ℕ
printed_sheet input = sheet (take read_limit input)

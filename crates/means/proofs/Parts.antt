-- Block k of a list whose blocks before it are filled: it is lent as a part, and put back. Assumes nothing.
use Rattle.std.proofs.Common.{◌≡◌, ◌∙◌, ap, List, ℕ, ◌+◌, ◌*◌, ◌-◌, ◌<◌, ◌≤◌, ◌++◌, get_or, length, take, drop, length-drop, arith}
use Rattle.std.proofs.lemmas.List.{length-take-le}
use Rattle.definitions.specs.Sums.{over, blocks}
use Rattle.laws.specs.BlockLaws.{block_end, length_blocks, get_d_next, blocks_back}

-- a list of numbers that was handed over, its blocks, what they are filled with, and the list with k of them filled
module _ (size count : ℕ) (f : ℕ → ℕ → ℕ) (l : List ℕ) (room : count * size ≤ length l) (k : ℕ) (now : List ℕ) (filled : now ≡ blocks size k f l) (next : k < count) where
  -- block k lies in it
  pub block_in : (k + 1) * size ≤ length now
  block_in = omega (arith, ap (length {A = ℕ}) filled, length_blocks size k f l (omega (arith, room, block_end k count size next)), room, block_end k count size next)

  -- and is lent whole
  abbrev pub part : List ℕ
  part = take ((k + 1) * size - k * size) (drop (k * size) now)

  pub length_part : length part ≡ size
  length_part = length-take-le ((k + 1) * size - k * size) (drop (k * size) now) (omega (arith, block_in, length-drop (k * size) now)) ∙ omega arith

  -- as it was handed over
  pub entry_part : (i : ℕ) → i < size → get_or part i 0 ≡ get_or l (k * size + i) 0
  entry_part i b = get_d_next size 0 k ((k + 1) * size - k * size) f l now filled (omega (arith, length_part)) i b

  -- filled and put back it is one block more
  pub put_back : (g : ℕ → ℕ) (back : List ℕ) → back ≡ over size g part → ((i : ℕ) → i < size → g i ≡ f k i) → take (k * size) now ++ (back ++ drop ((k + 1) * size - k * size) (drop (k * size) now)) ≡ blocks size (k + 1) f l
  put_back g back e same = blocks_back size k ((k + 1) * size - k * size) f g l now back filled (omega (arith, length_part)) e same

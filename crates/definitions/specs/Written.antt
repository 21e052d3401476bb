-- What a call leaves that writes bytes at the start of what is lent, and what one answers that writes a file.
use Rattle.std.specs.Prelude.{ℕ, List, ◌++◌, length, drop}
use Rattle.definitions.specs.Rules.{Answer, accepted, refused, saying, Rows, room, first_held}

-- a buffer after a text was written at its start: the text, and the buffer's later bytes as they were
unfoldable pub written : List ℕ → List ℕ → List ℕ
written text buffer = text ++ drop (length text) buffer

-- what a call answers that writes a file: the first row of its table that holds, then row 13 for the bytes that are lent; else the file
unfoldable pub file_for : Rows → List ℕ → ℕ → Answer (List ℕ)
file_for table file lent = first_held (table ++ room (length file) lent) file

-- the count of bytes that it returns
abbrev pub count_of : Answer (List ℕ) → Answer ℕ
count_of a = saying length a

-- all bytes of what is lent after the call, from those before it: a refusal writes nothing
abbrev pub bytes_after : Answer (List ℕ) → List ℕ → List ℕ
bytes_after (accepted file) out = written file out
bytes_after (refused k) out = out

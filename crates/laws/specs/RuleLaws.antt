-- Tables of refusals, for any table: row by row, part by part, and what acceptance tells.
use Rattle.std.specs.Prelude.{ℕ, ◌≡◌, refl, Bool, true, false, not, [], ◌∷◌, ◌++◌, eqb}
use Rattle.std.proofs.Common.{arith, ap, ◌∙◌, append-nil, eq-eqb, ne_eqb}
use Rattle.definitions.specs.Sums.{pick}
use Rattle.definitions.specs.Rules.{Answer, accepted, refused, Rows, first_held}

-- an acceptance is no refusal, whatever their values
pub accepted_is_no_refusal : {A : Type 0} (a : A) (k : ℕ) → accepted a ≡ refused k → ⊥
accepted_is_no_refusal a k e = cc

-- a row that holds answers; past one that does not, the later rows answer
pub row_stops : {A : Type 0} (k : ℕ) (b : Bool) (later : Rows) (a : A) → b ≡ true → first_held ((k, b) ∷ later) a ≡ refused k
unfolding first_held
row_stops k b later a e = rw e refl

pub row_passes : {A : Type 0} (k : ℕ) (b : Bool) (later : Rows) (a : A) → b ≡ false → first_held ((k, b) ∷ later) a ≡ first_held later a
unfolding first_held
row_passes k b later a e = rw e refl

-- past all rows the file is accepted
pub none_left : {A : Type 0} (a : A) → first_held [] a ≡ accepted a
unfolding first_held
none_left a = refl

-- the test of two numbers that are to be equal
pub differ : (a b : ℕ) → (a ≡ b → ⊥) → not (eqb a b) ≡ true
differ a b h = ap not (ne_eqb a b h)

pub agree : (a b : ℕ) → a ≡ b → not (eqb a b) ≡ false
agree a b h = ap not (eq-eqb a b h)

-- the first answer where it refuses, else the second
abbrev pub and_then : {A B : Type 0} → Answer A → Answer B → Answer B
and_then (accepted a) second = second
and_then (refused k) second = refused k

row_then : {A B : Type 0} (held : Bool) (k : ℕ) (first : Answer A) (second : Answer B) → pick held (refused k) (and_then first second) ≡ and_then (pick held (refused k) first) second
row_then held k first second = grind arith

-- a table in two parts: the first part's refusal, or what the second part answers
pub in_parts : {A B : Type 0} (t u : Rows) (a : A) (b : B) → first_held (t ++ u) b ≡ and_then (first_held t a) (first_held u b)
unfolding first_held
in_parts [] u a b = refl
in_parts (row ∷ later) u a b = grind (arith, in_parts later u a b, row_then)

-- with another value on acceptance a table refuses the same
other_value : {A B : Type 0} (t : Rows) (a : A) (b : B) → first_held t b ≡ and_then (first_held t a) (accepted b)
other_value t a b = rw append-nil at (in_parts t [] a b) ∙ (unfold first_held in refl)

-- so one table refuses, or accepts, whatever it returns
pub also_refused : {A B : Type 0} (t : Rows) (a : A) (b : B) (k : ℕ) → first_held t a ≡ refused k → first_held t b ≡ refused k
also_refused t a b k e = other_value t a b ∙ rw e refl

pub also_accepted : {A B : Type 0} (t : Rows) (a x : A) (b : B) → first_held t a ≡ accepted x → first_held t b ≡ accepted b
also_accepted t a x b e = other_value t a b ∙ rw e refl

-- no row of a table holds
abbrev pub NoneHold : Rows → Type 0
NoneHold [] = Unit {0}
NoneHold (row ∷ later) = (row.1 ≡ false) × NoneHold later

-- where a table accepts, no row holds
pub none_hold : {A : Type 0} (t : Rows) (a b : A) → first_held t a ≡ accepted b → NoneHold t
unfolding first_held
none_hold [] a b h = tt
none_hold (row ∷ later) a b h = (rejected row.1 refl, none_hold later a b (rw (rejected row.1 refl) at h))
  where
    rejected : (held : Bool) → row.1 ≡ held → row.1 ≡ false
    rejected held e = grind arith

-- and what it is accepted with is the value given
pub accepted_value : {A : Type 0} (t : Rows) (a b : A) → first_held t a ≡ accepted b → a ≡ b
unfolding first_held
accepted_value [] a b h = cc
accepted_value (row ∷ later) a b h = accepted_value later a b (rw (none_hold (row ∷ later) a b h).0 at h)

-- none of two parts is none of either
pub none_in_parts : (t u : Rows) → NoneHold (t ++ u) → NoneHold t × NoneHold u
none_in_parts [] u h = (tt, h)
none_in_parts (row ∷ later) u h = let rest = none_in_parts later u h.1 in ((h.0, rest.0), rest.1)

-- where no row of a table holds, it accepts
pub all_pass : {A : Type 0} (t : Rows) (a : A) → NoneHold t → first_held t a ≡ accepted a
unfolding first_held
all_pass [] a h = refl
all_pass (row ∷ later) a h = rw h.0 (all_pass later a h.1)

-- none of either is none of both
pub none_together : (t u : Rows) → NoneHold t → NoneHold u → NoneHold (t ++ u)
none_together [] u h k = k
none_together (row ∷ later) u h k = (h.0, none_together later u h.1 k)

-- A practice file dealt with a seed number, and the answer without one.
use Rattle.std.specs.Prelude.{ℕ, ◌≤◌, ◌≡◌, List, length, take, Option, None, Some, Result}
use Rattle.std.proofs.Common.{arith, sym, ◌∙◌, ap, length-append, take_at}
use Rattle.std.proofs.lemmas.Option.{same_Some}
use Rattle.definitions.specs.declared.NotDealt.{NotDealt}
use Rattle.definitions.specs.Rules.{Answer, accepted, saying, dimensions, judged_by}
use Rattle.definitions.specs.Written.{written, count_of, bytes_after}
use Rattle.definitions.specs.Practice.{practice, Dealt, DealtWell}
use Rattle.definitions.specs.Dealing.{dealt_by, count_dealt, bytes_dealt, dealing_answer, DealtBy}

-- of a call that writes a file: its count, its bytes, and that the bytes counted are the file
count_given : (a : Answer (List ℕ)) → count_dealt (saying Some a) ≡ saying Some (count_of a)
count_given a = grind arith

bytes_given : (a : Answer (List ℕ)) (before : List ℕ) → bytes_dealt (saying Some a) before ≡ bytes_after a before
bytes_given a before = grind arith

good_given : (a : Answer (List ℕ)) (M R seed count : ℕ) (before after : List ℕ) → saying Some (count_of a) ≡ accepted (Some count) → after ≡ bytes_after a before → DealtWell a M R seed → Dealt M R seed (take count after)
unfolding written
good_given a M R seed count before after e bytes well = grind (arith, take_at)

-- with a seed number
pub by_seed : (M R seed : ℕ) {o : Result ℕ NotDealt} {w : Answer ℕ} {before after : List ℕ} → let a = practice M R seed (length before) in
    w ≡ count_of a → dealing_answer o ≡ saying Some w → after ≡ bytes_after a before → DealtWell a M R seed → DealtBy M R (Some seed) o before after
by_seed M R seed {o} {w} {before} {after} counts e bytes well =
    let a = practice M R seed (length before) in
    let answer = e ∙ ap (saying Some) counts in
    record {
      answer = answer ∙ sym (count_given a);
      bytes = bytes ∙ sym (bytes_given a before);
      good = λ n count s c. rw (← (same_Some seed n s)) (good_given a M R seed count before after (sym answer ∙ c) bytes well);
    }

-- the same for texts that say these numbers, and for one that says no seed number
pub for_seed : {m r n M R k : ℕ} {seed : Option ℕ} {o : Result ℕ NotDealt} {before after : List ℕ} → DealtBy m r (Some n) o before after → seed ≡ Some k → m ≡ M → r ≡ R → n ≡ k → DealtBy M R seed o before after
for_seed dealt s em er en = rw (s, ← em, ← er, ← en) dealt

pub for_none : {m r M R : ℕ} {seed : Option ℕ} {o : Result ℕ NotDealt} {before : List ℕ} → dealing_answer o ≡ saying (λ x. None) (judged_by (dimensions m r)) → seed ≡ None → m ≡ M → r ≡ R → DealtBy M R seed o before before
for_none {m} {r} {M} {R} {seed} {o} {before} e s em er = grind arith

-- the bytes counted lie within what was lent
inside : (a : Answer (Option (List ℕ))) (count : ℕ) (before after : List ℕ) → accepted (Some count) ≡ count_dealt a → after ≡ bytes_dealt a before → count ≤ length after
unfolding written
inside a count before after e bytes = grind (arith, length-append)

pub count_inside : {M R : ℕ} {seed : Option ℕ} {o : Result ℕ NotDealt} {before after : List ℕ} (count : ℕ) → DealtBy M R seed o before after → dealing_answer o ≡ accepted (Some count) → count ≤ length after
count_inside {M} {R} {seed} {o} {before} {after} count dealt e = inside (dealt_by M R seed (length before)) count before after (sym e ∙ dealt.answer) dealt.bytes

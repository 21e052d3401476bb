-- `input::fill` meets its contract. Assumes nothing.
use Rattle.std.specs.Prelude.{◌≡◌, ℕ, ◌+◌, ◌-◌, ◌≤◌, List, ◌++◌, length, take, drop}
use Rattle.std.proofs.Common.{sym, ap, ◌∙◌, subst, le_refl, arith, drop_at, length-take-le, rules, take-add}
use Rattle.std.proofs.lemmas.Slice.{take-put_mid_below}
use Rattle.std.specs.Io.KnownBytes.{Consumes}
use Rattle.std.proofs.KnownBytes.{Consumes-trans}
use Rattle.std.proofs.lemmas.List.{take-append-le}
use borrow.Rule.Slice.PartMut.{put_mid, post_of}
use Rattle.input.proofs.fill.Goals as goal

-- n bytes that were read to the place a on stand after the a before them
read_after : (a n : ℕ) (xs ys : List ℕ) → a ≤ length xs → n ≤ length ys → take (a + n) (put_mid a (length xs - a) xs ys) ≡ take a xs ++ take n ys
read_after a n xs ys within fits =
    let all : List ℕ = put_mid a (length xs - a) xs ys in
    let after = post_of a (length xs - a) xs in
    take-add a n all
    ∙ ap (λ l. l ++ take n (drop a all)) (take-put_mid_below _ _ _ _ _ (le_refl _) within)
    ∙ ap (λ l. take a xs ++ take n l) (drop_at (take a xs) (ys ++ after) a (length-take-le a xs within))
    ∙ ap (λ l. take a xs ++ l) (take-append-le n ys after fits)

pub loop-count-preserved : goal.loop-count-preserved
loop-count-preserved g c =
    let loop = c.loop-count in
    record {
      room = search rules;
      within = search rules;
      bytes = subst (Consumes _ _) (sym (read_after loop.count c.in-Ok.more loop.buffer c.read.new.buf loop.invariant.within c.in-Ok.ensures.bound.0)) (Consumes-trans _ _ _ _ _ loop.invariant.bytes c.in-Ok.ensures.bytes.0);
    }

-- after a read that failed nothing is said of the input's end
pub returns-in-Err-clause-end : goal.returns-in-Err-clause-end
returns-in-Err-clause-end g c = tt

-- the buffer is full
pub returns-clause-end : goal.returns-clause-end
returns-clause-end g c = λ room. absurd (omega arith)

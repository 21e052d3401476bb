-- `put_digits` meets its contract. Assumes nothing.
use Rattle.std.proofs.Common.{◌≡◌, List, ◌∷◌, ℕ, ◌-◌, sym, ap, ◌∙◌, arith}
use Rattle.std.proofs.lemmas.List.Edits.{sets}
use Rattle.definitions.specs.Sheet.{digits}
use Rattle.writing.specs.Puts.{first_byte}
use Rattle.laws.specs.SheetLaws.{length_digits}
use Rattle.sheet.specs.TextLaws.{next_digit}
use Rattle.sheet.proofs.put_digits.Goals as goal

pub loop-place-preserved : goal.loop-place-preserved
loop-place-preserved c =
    let loop = c.loop-place in
    let out : List ℕ = loop.pen.out.now in
    let x = c.args.x in
    let place : ℕ = loop.place - 1 in
    let put = c.put.ensures in
    record {
      at = omega (arith, put.after);
      left =
          first_byte put (digits x place)
          ∙ ap (λ (b : ℕ). sets out loop.pen.at (b ∷ digits x place)) c.digit_at.ensures
          ∙ ap (λ (t : List ℕ). sets out loop.pen.at t) (next_digit x loop.place (omega arith))
          ∙ loop.invariant.left;
      room = put.room ∙ loop.invariant.room;
      same_buffer = put.same_buffer ∙ loop.invariant.same_buffer;
    }

pub returns : goal.returns
unfolding digits
returns c =
    let loop = c.loop-place in
    let args = c.args in
    let none : loop.place ≡ 0 = omega arith in
    record {
      after = omega (arith, length_digits args.x args.p);
      within = omega arith;
      bytes = ap (λ (n : ℕ). sets loop.pen.out.now loop.pen.at (digits args.x n)) (sym none) ∙ loop.invariant.left;
      room = loop.invariant.room;
      same_buffer = loop.invariant.same_buffer;
    }

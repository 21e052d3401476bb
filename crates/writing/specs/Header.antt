-- The texts that are put one after the other are the header of a file. Assumes nothing.
use Rattle.std.specs.Prelude.{◌≡◌, List, [], ◌∷◌, ◌++◌, ℕ, ◌+◌, ◌*◌}
use Rattle.std.proofs.Common.{subst}
use Rattle.definitions.specs.declared.Header.{Header}
use Rattle.definitions.specs.Bytes.{bytes_of}
use Rattle.definitions.specs.Fields.{headed}
use Rattle.writing.specs.declared.Pen.{Pen}
use Rattle.writing.specs.Puts.{Puts}

pub header_put : (h : Header) (count later version states highest tolerance time : ℕ) {most : ℕ} {old new : Pen} →
    Puts (bytes_of 2 later ++ (version ∷ []) ++ (states ∷ []) ++ (highest ∷ []) ++ bytes_of 4 tolerance ++ bytes_of 4 time) most old new →
    later ≡ 4 * count + 11 → version ≡ h.version → states ≡ h.states → highest ≡ h.highest → tolerance ≡ h.tolerance → time ≡ h.time → Puts (headed h count) most old new
unfolding headed bytes_of
header_put h count later version states highest tolerance time {most} {old} {new} put l v m r e t =
    subst (λ (x : List ℕ). Puts x most old new) (λ i. bytes_of 2 (l i) ++ (v i ∷ []) ++ (m i ∷ []) ++ (r i ∷ []) ++ bytes_of 4 (e i) ++ bytes_of 4 (t i)) put

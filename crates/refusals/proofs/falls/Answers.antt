-- `refusals::falls` meets its contract: each time is above the one before it just where none falls. Assumes nothing.
use Rattle.std.specs.Prelude.{ℕ, suc, zero, ◌+◌, ◌-◌, ◌<◌, ◌≡◌, Bool, true, false, not, List, ltb, length, get_or}
use Rattle.std.proofs.Common.{sym, arith, tests, ltb-true, ltb-false, add-sub_cancel, add-one, rules}
use Rattle.std.specs.List.{IsAllAdjacentAnswer}
use Rattle.std.proofs.lemmas.List.Sorted.{answers_always}
use Rattle.definitions.specs.Rules.{falls_up_to}
use Rattle.laws.specs.RowLaws.{none_compared, rises_to, falls_at}
use Rattle.refusals.proofs.falls.Goals as goal

none_falls : (t : List ℕ) (n : ℕ) → ((k : ℕ) → k < n → get_or t k 0 < get_or t (k + 1) 0) → falls_up_to n t ≡ false
none_falls t zero above = none_compared t
none_falls t (suc n) above =
    let before : suc n - 1 ≡ n = omega arith in
    rises_to t (suc n) (omega arith) (rw before (none_falls t n (λ k l. above k (omega arith)))) (rw (before, sym (add-one n)) (above n (omega arith)))

by_answer : (t : List ℕ) (r : Bool) → IsAllAdjacentAnswer (λ x y b. b ≡ ltb x y) t r → not r ≡ falls_up_to (length t - 1) t
by_answer t true h = sym (none_falls t (length t - 1) (λ k l. ltb-true (get_or t k 0) (get_or t (k + 1) 0) (sym (h k 0 (omega arith)))))
by_answer t false h = sym (falls_at t (h.0 + 1) (length t - 1) (omega arith) (omega arith) (rw add-sub_cancel (ltb-false (get_or t h.0 0) (get_or t (h.0 + 1) 0) (sym (h.2 0)))))

pub returns : goal.returns
returns c =
    by_answer c.args.times.now c.is_sorted_by.result (c.is_sorted_by.ensures.cases (λ x y. ltb x y) (answers_always _ _ _ (λ f a r q k. search (rules, tests))))

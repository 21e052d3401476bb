-- One row after those of a table. Assumes nothing.
use Rattle.std.proofs.Common.{◌≡◌, ℕ, Bool, true, false, [], ◌∷◌, ◌++◌, sym, ap, ◌∙◌}
use Rattle.definitions.specs.Rules.{Answer, accepted, refused, Rows, judged_by}
use Rattle.laws.specs.RuleLaws.{and_then, in_parts, row_stops, row_passes, none_left}

parts : (t u : Rows) (a : Answer (Unit {0})) → a ≡ judged_by t → judged_by (t ++ u) ≡ and_then a (judged_by u)
parts t u a e = in_parts t u tt tt ∙ ap (λ (x : Answer (Unit {0})). and_then x (judged_by u)) (sym e)

-- the table stops
pub stopped_before : (t u : Rows) (k : ℕ) → refused k ≡ judged_by t → refused k ≡ judged_by (t ++ u)
stopped_before t u k e = sym (parts t u (refused k) e)

-- the table passes, and the row stops or passes
module _ (t : Rows) (k : ℕ) (b : Bool) (passed : accepted tt ≡ judged_by t) where
  pub stopped_there : b ≡ true → refused k ≡ judged_by (t ++ (k, b) ∷ [])
  stopped_there h = sym (parts t ((k, b) ∷ []) (accepted tt) passed ∙ row_stops k b [] tt h)

  pub passed_there : b ≡ false → accepted tt ≡ judged_by (t ++ (k, b) ∷ [])
  passed_there h = sym (parts t ((k, b) ∷ []) (accepted tt) passed ∙ row_passes k b [] tt h ∙ none_left tt)

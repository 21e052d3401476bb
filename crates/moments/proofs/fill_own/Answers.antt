-- The file's own time is a list of one: its level and row means are those of the file's run, and its block the file's moments.
use Rattle.std.proofs.Common.{◌≡◌, sym, ◌∙◌, ap, ap₂, subst, List, [], ◌∷◌, ℕ, length, get_or}
use Rattle.definitions.specs.declared.Run.{Run}
use Rattle.definitions.specs.File.{time_field}
use Rattle.definitions.specs.Rules.{accepted}
use Rattle.definitions.specs.Moment.{cells_after}
use Rattle.definitions.specs.Series.{means_of_all, levels_after, blocks_after}
use Rattle.laws.specs.Acceptance.{AcceptedSeries, one_time}
use Rattle.moments.specs.FillingLaws.{own_level, own_means, own_block}
use Rattle.moments.proofs.fill_own.Goals as goal
use Rattle.moments.proofs.fill_own.Goals.{After-time}

time : (c : After-time) → c.time.result ≡ time_field c.args.file.now
time c = c.time.ensures ∙ ap time_field c.file.view_is

pub fill-means-requires : goal.fill-means-requires
fill-means-requires c =
    let s = c.args.file.now in
    let cells = length c.args.cells.now in
    subst (λ (t : ℕ). AcceptedSeries s (t ∷ []) 1 cells) (sym (time (goal.at.fill-means-requires c).After-time)) (one_time s cells c.requires)

pub returns : goal.returns
returns c =
    let s = c.args.file.now in
    let cells = c.args.cells.now in
    let own = time (goal.at.returns c).After-time in
    let filled = c.fill-means.ensures in
    let n = c.fill-means.result in
    let level = ap (λ (l : List ℕ). get_or l 0 0) filled.levels ∙ ap (λ (t : ℕ). get_or (levels_after (accepted n) s (t ∷ []) (0 ∷ [])) 0 0) own ∙ own_level s n (0 ∷ []) in
    let means = filled.means ∙ ap (λ (t : ℕ). means_of_all s (t ∷ [])) own ∙ own_means s in
    let run = ap₂ {C = Run} (λ (N k : ℕ). record { level = N; means = k }) level means in
    (run, filled.cells ∙ ap (λ (t : ℕ). blocks_after (accepted n) s (t ∷ []) cells) own ∙ own_block s n cells ∙ ap (λ (x : Run). cells_after (accepted x) s cells) (sym run))

-- `refusals::judge_model` meets its contract: the framing, then the quantities. Assumes nothing.
use Rattle.std.specs.Prelude.{◌≡◌, Err}
use Rattle.std.proofs.Common.{◌∙◌, rules}
use Rattle.definitions.specs.Chain.{model_of, uniform_rate}
use Rattle.definitions.specs.Rules.{framing, quantities}
use Rattle.refusals.proofs.Parts.{first_refuses, second_answers}
use Rattle.refusals.proofs.judge_model.Goals as goal

pub returns-in_err-file-clause-rated : goal.returns-in_err-file-clause-rated
returns-in_err-file-clause-rated c =
    let s = c.args.bytes.now in
    let gave : c.from_residual.result ≡ Err c.in_err-file.field-0.0 = search rules in
    let framed : c.judge_framing.result ≡ Err c.in_err-file.field-0.0 = c.in_err-file.was in
    rw gave (first_refuses (framing c.args.low c.args.high s) (quantities (model_of s) c.args.times.now) tt (uniform_rate (model_of s)) _ (rw framed at c.judge_framing.ensures.judged))

pub returns-in_err-rate-clause-rated : goal.returns-in_err-rate-clause-rated
returns-in_err-rate-clause-rated c =
    let s = c.args.bytes.now in
    let is : c.in_ok-file.file ≡ s = c.in_ok-file.ensures.same in
    let gave : c.from_residual-in_err-rate.result ≡ Err c.in_err-rate.field-0.0 = search rules in
    rw gave (rw is at c.in_err-rate.ensures ∙ second_answers (framing c.args.low c.args.high s) (quantities (model_of s) c.args.times.now) tt tt (uniform_rate (model_of s)) c.in_ok-file.ensures.judged)

pub returns-clause-rated : goal.returns-clause-rated
returns-clause-rated c =
    let s = c.args.bytes.now in
    let is : c.in_ok-file.file ≡ s = c.in_ok-file.ensures.same in
    rw is at c.in_ok-rate.ensures ∙ second_answers (framing c.args.low c.args.high s) (quantities (model_of s) c.args.times.now) tt tt (uniform_rate (model_of s)) c.in_ok-file.ensures.judged

use Rattle.std.proofs.Common.{◌≡◌, IfOk, refl, sym, subst, ◌∙◌}
use Rattle.market_texts.specs.Readers.{request_of_text}
use Rattle.market_events.specs.Texts.{text_of_request}
use Rattle.market_events.specs.WellFormed.{IsRequest}
use Rattle.market_texts.proofs.TextLaws.{request_reads, request_spelled}
use Rattle.market_texts.proofs.TextAnswers.{sure_formed, sure_spelled, sure_reads}
use Rattle.market_texts.proofs.readers.read_request.Goals as goal

pub returns : goal.returns
returns c =
    let said = sym c.whole_request.ensures in
    record {
      exact = c.whole_request.ensures;
      formed = subst (λ r. IfOk r IsRequest) said (sure_formed request_of_text text_of_request IsRequest request_reads request_spelled c.args.text.now (request_of_text c.args.text.now) refl);
      spelled = subst (λ r. IfOk r (λ request. c.args.text.now ≡ text_of_request request)) said (sure_spelled request_of_text text_of_request IsRequest request_reads request_spelled c.args.text.now (request_of_text c.args.text.now) refl);
      reads = λ request formed is. c.whole_request.ensures ∙ sure_reads request_of_text text_of_request IsRequest request_reads request_spelled c.args.text.now request formed is;
    }

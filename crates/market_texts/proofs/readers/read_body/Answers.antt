use Rattle.market_texts.specs.Readers.{body_of_text}
use Rattle.market_events.specs.Texts.{text_of_body}
use Rattle.market_events.specs.WellFormed.{IsBody}
use Rattle.market_texts.proofs.TextLaws.{body_reads, body_spelled}
use Rattle.market_texts.proofs.TextAnswers.{answer_formed, answer_spelled, answer_reads}
use Rattle.market_texts.proofs.readers.read_body.Goals as goal

pub returns : goal.returns
returns c = record {
  exact = c.whole_body.ensures;
  formed = answer_formed body_of_text text_of_body IsBody body_reads body_spelled c.args.text.now c.whole_body.result c.whole_body.ensures;
  spelled = answer_spelled body_of_text text_of_body IsBody body_reads body_spelled c.args.text.now c.whole_body.result c.whole_body.ensures;
  reads = answer_reads body_of_text text_of_body IsBody body_reads body_spelled c.args.text.now c.whole_body.result c.whole_body.ensures;
}

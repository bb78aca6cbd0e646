use Rattle.market_texts.specs.Readers.{reply_of_text}
use Rattle.market_events.specs.Texts.{text_of_reply}
use Rattle.market_events.specs.WellFormed.{IsReply}
use Rattle.market_texts.proofs.TextLaws.{reply_reads, reply_spelled}
use Rattle.market_texts.proofs.TextAnswers.{answer_formed, answer_spelled, answer_reads}
use Rattle.market_texts.proofs.readers.read_reply.Goals as goal

pub returns : goal.returns
returns c = record {
  exact = c.whole_reply.ensures;
  formed = answer_formed reply_of_text text_of_reply IsReply reply_reads reply_spelled c.args.text.now c.whole_reply.result c.whole_reply.ensures;
  spelled = answer_spelled reply_of_text text_of_reply IsReply reply_reads reply_spelled c.args.text.now c.whole_reply.result c.whole_reply.ensures;
  reads = answer_reads reply_of_text text_of_reply IsReply reply_reads reply_spelled c.args.text.now c.whole_reply.result c.whole_reply.ensures;
}

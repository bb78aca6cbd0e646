-- Each clause is the law of its readings.
use Rattle.market_texts.specs.Readers.{request_of_text, reply_of_text, body_of_text}
use Rattle.market_events.specs.Texts.{text_of_request, text_of_reply, text_of_body}
use Rattle.market_events.specs.WellFormed.{IsRequest, IsReply, IsBody}
use Rattle.market_texts.proofs.TextLaws.{request_reads, request_spelled, reply_reads, reply_spelled, body_reads, body_spelled, read_exactly, texts_apart, read_formed}
use Rattle.market_texts.proofs.laws.values_have_texts.Goals as goal

pub returns : goal.returns
returns c = record {
  requests_read = read_exactly request_of_text text_of_request IsRequest request_reads request_spelled;
  requests_apart = texts_apart request_of_text text_of_request IsRequest request_reads request_spelled;
  requests_formed = read_formed request_of_text text_of_request IsRequest request_reads request_spelled;
  replies_read = read_exactly reply_of_text text_of_reply IsReply reply_reads reply_spelled;
  replies_apart = texts_apart reply_of_text text_of_reply IsReply reply_reads reply_spelled;
  replies_formed = read_formed reply_of_text text_of_reply IsReply reply_reads reply_spelled;
  bodies_read = read_exactly body_of_text text_of_body IsBody body_reads body_spelled;
  bodies_apart = texts_apart body_of_text text_of_body IsBody body_reads body_spelled;
  bodies_formed = read_formed body_of_text text_of_body IsBody body_reads body_spelled;
}

use Rattle.std.proofs.Common.{inl}
use Rattle.market.proofs.Reading.Records.{read_one}
use Rattle.market.proofs.records.next_record.Goals as goal

pub returns : goal.returns
returns c = λ rest reads. read_one c.args.reader.now c.read_byte_record.new.self c.in_ok-found.found _ rest reads
    (inl (c.in_ok-found.ensures.ready reads.trims))
    (c.in_ok-found.ensures.reads reads.trims reads.ready)

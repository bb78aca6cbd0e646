use Rattle.std.proofs.Common.{arith}
use Rattle.market_events.proofs.NamedCells.Spelled.{key_of_word, read_text, read_all}
use Rattle.market_words.proofs.WordNumbers.{number_id_word}
use Rattle.market_events.proofs.cell_names.number_read.Goals as goal

pub returns-clause-written : goal.returns-clause-written
returns-clause-written c = read_text (key_of_word number_id_word) c.args.text.now c.id_number.result c.id_number.ensures c.ok.result c.ok.ensures.value

pub returns-clause-found : goal.returns-clause-found
returns-clause-found c = λ n small is.
    read_all (key_of_word number_id_word) c.args.text.now c.id_number.result c.id_number.ensures c.ok.result c.ok.ensures.value n (omega arith) is

use Rattle.market_events.proofs.NamedCells.Spelled.{key_of_word, read_text, read_ok, read_all, if_some}
use Rattle.market_events.proofs.Values.Formed.{key_decides}
use Rattle.market_words.proofs.WordNames.{key_word}
use Rattle.market_events.proofs.cell_names.key_read.Goals as goal

pub returns-clause-written : goal.returns-clause-written
returns-clause-written c = read_text (key_of_word key_word) c.args.text.now c.key.result c.key.ensures c.ok.result c.ok.ensures.value

pub returns-clause-formed : goal.returns-clause-formed
returns-clause-formed c =
    if_some _ _ (λ k small. (key_decides k).1 small) c.ok.result
    (read_ok (key_of_word key_word) c.args.text.now c.key.result c.key.ensures c.ok.result c.ok.ensures.value)

pub returns-clause-found : goal.returns-clause-found
returns-clause-found c = λ k formed is.
    read_all (key_of_word key_word) c.args.text.now c.key.result c.key.ensures c.ok.result c.ok.ensures.value k ((key_decides k).0 formed) is

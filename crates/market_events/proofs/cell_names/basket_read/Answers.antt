use Rattle.std.proofs.Common.{arith}
use Rattle.market_events.proofs.NamedCells.Spelled.{basket_word, read_text, read_ok, read_all, if_some}
use Rattle.market_events.proofs.Values.Formed.{key_decides}
use Rattle.market_events.proofs.cell_names.basket_read.Goals as goal

pub returns-clause-written : goal.returns-clause-written
returns-clause-written c = read_text basket_word c.args.text.now c.basket.result c.basket.ensures c.ok.result c.ok.ensures.value

pub returns-clause-formed : goal.returns-clause-formed
returns-clause-formed c =
    if_some _ _ (λ line small. (key_decides line.1).1 small.1) c.ok.result
    (read_ok basket_word c.args.text.now c.basket.result c.basket.ensures c.ok.result c.ok.ensures.value)

pub returns-clause-found : goal.returns-clause-found
returns-clause-found c = λ line small formed is.
    read_all basket_word c.args.text.now c.basket.result c.basket.ensures c.ok.result c.ok.ensures.value line (omega arith, (key_decides line.1).0 formed) is

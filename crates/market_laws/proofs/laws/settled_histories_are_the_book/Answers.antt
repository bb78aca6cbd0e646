-- Each table is the book's.
use Rattle.market_laws.proofs.Book.Tables.{settled-book}
use Rattle.market_laws.proofs.laws.settled_histories_are_the_book.Goals as goal

pub returns : goal.returns
returns c = settled-book

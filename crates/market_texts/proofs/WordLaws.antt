-- The laws of single words: each is read as a value just where it is the text of that value and the value is well formed.
pub use Rattle.market_words.proofs.WordCuts.{Lacks, pieces_joined, joined_pieces}
pub use Rattle.market_words.proofs.WordReads.{ReadsWord}
pub use Rattle.market_words.proofs.WordNumbers.{number_word, positive_word, number_id_word}
pub use Rattle.market_texts.proofs.WordNumbers.{cents_word, pieces_word, limit_word, total_word, amount_word, quantity_word, stocked_word, this_total_word, total_of_lines-le}
pub use Rattle.market_texts.proofs.WordChoices.{status_word, progress_word, rule_word, stock_rule_word, pay_rule_word, undone_word_text, undone_word, change_word_text, change_word, ending_word_text, ending_word}
pub use Rattle.market_words.proofs.WordNames.{id_word, key_word}
pub use Rattle.market_texts.proofs.WordForms.{line_word, line_lacks, lines_word, item_word, item_lacks, items_word, row_word}

-- The output of a run, and what a call adds to a sink.
use Rattle.std.specs.Prelude.{◌≡◌, ℕ, ◌<◌, List, ◌∷◌, ◌++◌, Option, take, length}
use Rattle.std.specs.Prelude.{option_map, codes, []}
use Rattle.std.specs.Fmt.{decimal}
use Rattle.std.specs.List.{count_by, flat_map}
use Rattle.market_events.specs.declared.requests.Request.{Request}
use Rattle.market_events.specs.Texts.{text_of_reply}
use Rattle.market.specs.declared.lanes.Kept.{Kept}
use Rattle.market.specs.Once.{kept_of, answer_kept}
use Rattle.market.specs.Replies.{sequential_replies}
use Rattle.market_history.specs.Once.{most_kept}
use Rattle.market_history.specs.Output.{says_whole, says_undone, id_and_space}

-- the answer line of a request, by what is kept
abbrev pub answer_line : List Kept → Request → List ℕ
answer_line kept r = id_and_space r.id ++ (text_of_reply (answer_kept kept r) ++ 10 ∷ [])

-- how many of the kept requests were answered so
abbrev pub whole_kept : List Kept → ℕ
whole_kept kept = count_by (λ (k : Kept). says_whole k.reply) kept

abbrev pub undone_kept : List Kept → ℕ
undone_kept kept = count_by (λ (k : Kept). says_undone k.reply) kept

-- the four lines that count the kept requests, the replies `whole` and `undone`, and the events that are
-- outstanding
abbrev pub count_lines : ℕ → ℕ → ℕ → List ℕ
count_lines requests whole undone =
    codes "requests "
    ++ (decimal requests
    ++ (codes "\nwhole "
    ++ (decimal whole ++ (codes "\nundone " ++ (decimal undone ++ codes "\noutstanding 0\n")))))

-- an answer line for each given request, in order, and the four lines that count
abbrev pub output_of : List Kept → List Request → List ℕ
output_of kept given =
    flat_map (answer_line kept) given ++ count_lines (length kept) (whole_kept kept) (undone_kept kept)

-- the output of a run: the kept requests are answered by the sequential market, and each given request by
-- what is kept
abbrev pub sequential_output : List Request → List ℕ
sequential_output given = output_of (sequential_replies (kept_of most_kept given)) given

-- where a sink tells what it holds, it grew by exactly these bytes
abbrev pub Appends : Option (List ℕ) → Option (List ℕ) → List ℕ → Type 0
Appends before after bytes = after ≡ option_map (λ held. held ++ bytes) before

-- it grew by the front of these bytes, and not by all of them
abbrev pub AppendsPart : Option (List ℕ) → Option (List ℕ) → List ℕ → Type 0
AppendsPart before after bytes = (n : ℕ) × (n < length bytes) × Appends before after (take n bytes)

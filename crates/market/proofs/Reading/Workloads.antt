-- The requests of an input, record after record.
use Rattle.std.proofs.Common.{◌≡◌, ℕ, ◌+◌, List, [], ◌∷◌, ◌++◌, Result, Ok, Err, refl, ap, ◌∙◌, sym, append_assoc, Vec, Global, ◌≤◌, ◌<◌, length, Bool, true, false, Bor, arith}
use Rattle.std.proofs.lemmas.List.{append-nil}
use Rattle.csv.specs.declared.reader.Reader.{Reader}
use Rattle.market_words.specs.Results.{◌>>=◌}
use Rattle.market_texts.specs.Workload.{request_of}
use Rattle.market_events.specs.declared.requests.Request.{Request}
use Rattle.market_texts.specs.declared.workload.WorkRule.{WorkRule}
use Rattle.market.specs.Workload.{at_record, requests_after, workload_of, TellsWorkFault}
use Rattle.market.specs.declared.workload.WorkFault.{WorkFault}
use Rattle.market.specs.declared.workload.WorkFault.TheVariants.{Line, OutOfMemory}
use Rattle.std.specs.Result.{MatchResult}
use Rattle.market.specs.Records.{records_of, Reads, ReadsOne}
use Rattle.market.proofs.Reading.Records.{length-records_of}

-- these requests stand before those that are read
abbrev pub with_front : List Request → Result (List Request) (ℕ × WorkRule) → Result (List Request) (ℕ × WorkRule)
with_front front read = read >>= λ more. Ok (front ++ more)

move_one : (front : List Request) (q : Request) (read : Result (List Request) (ℕ × WorkRule))
    → with_front front (read >>= λ qs. Ok (q ∷ qs)) ≡ with_front (front ++ q ∷ []) read
move_one front q (Ok qs) = ap Ok (sym (append_assoc front (q ∷ []) qs))
move_one front q (Err e) = refl

-- a record that gives a request
pub one_request : (n : ℕ) (r : List (List ℕ)) (rs : List (List (List ℕ))) (front : List Request) (q : Request) → at_record (n + 1) (request_of r) ≡ Ok q
    → with_front front (requests_after n (r ∷ rs)) ≡ with_front (front ++ q ∷ []) (requests_after (n + 1) rs)
one_request n r rs front q e =
    ap (λ (first : Result Request (ℕ × WorkRule)). with_front front (first >>= λ p. requests_after (n + 1) rs >>= λ qs. Ok (p ∷ qs))) e
    ∙ move_one front q (requests_after (n + 1) rs)

-- a record that breaks a rule
pub one_fault : (n : ℕ) (r : List (List ℕ)) (rs : List (List (List ℕ))) (front : List Request) (fault : ℕ × WorkRule) → at_record (n + 1) (request_of r) ≡ Err fault
    → with_front front (requests_after n (r ∷ rs)) ≡ Err fault
one_fault n r rs front fault e =
    ap (λ (first : Result Request (ℕ × WorkRule)). with_front front (first >>= λ p. requests_after (n + 1) rs >>= λ qs. Ok (p ∷ qs))) e

-- a reader stands behind n records of a text, which gave these requests
pub record StandsBehind (text : List ℕ) (reader : Reader (Bor (List ℕ))) (n : ℕ) (front : List Request) : Type 0 where
  pub rest : List (List (List ℕ))
  pub reads : Reads reader rest
  pub within : n + length rest ≤ 67_108_864
  pub whole : workload_of text ≡ with_front front (requests_after n rest)

-- what a read found of whatever the reader had left
abbrev pub Found : Reader (Bor (List ℕ)) → Bool → List (List ℕ) → Reader (Bor (List ℕ)) → Type 0
Found before found fields after = (rest : List (List (List ℕ))) → Reads before rest → ReadsOne rest found fields after

nothing_before : (read : Result (List Request) (ℕ × WorkRule)) → read ≡ with_front [] read
nothing_before (Ok qs) = refl
nothing_before (Err e) = refl

pub begins : (text : List ℕ) (reader : Reader (Bor (List ℕ))) → Reads reader (records_of text) → length text ≤ 67_108_864 → StandsBehind text reader 0 []
begins text reader reads small = record {
  rest = records_of text;
  reads = reads;
  within = omega (arith, length-records_of text);
  whole = nothing_before (workload_of text);
}

module _ (text : List ℕ) (before after : Reader (Bor (List ℕ))) (n : ℕ) (front : List Request) (fields : List (List ℕ)) where
  more_of : (q : Request) (rest : List (List (List ℕ))) → ReadsOne rest true fields after → n + length rest ≤ 67_108_864
      → workload_of text ≡ with_front front (requests_after n rest) → at_record (n + 1) (request_of fields) ≡ Ok q → StandsBehind text after (n + 1) (front ++ q ∷ [])
  more_of q [] one within whole e = cc one
  more_of q (r ∷ rs) one within whole e = record {
    rest = rs;
    reads = one.2;
    within = omega arith;
    whole = whole ∙ one_request n r rs front q (rw one.1 at e);
  }

  pub goes_on : (q : Request) → StandsBehind text before n front → Found before true fields after → at_record (n + 1) (request_of fields) ≡ Ok q
      → StandsBehind text after (n + 1) (front ++ q ∷ [])
  goes_on q s found e = more_of q s.rest (found s.rest s.reads) s.within s.whole e

  fault_of : (fault : ℕ × WorkRule) (rest : List (List (List ℕ))) → ReadsOne rest true fields after
      → workload_of text ≡ with_front front (requests_after n rest) → at_record (n + 1) (request_of fields) ≡ Err fault → workload_of text ≡ Err fault
  fault_of fault [] one whole e = cc one
  fault_of fault (r ∷ rs) one whole e = whole ∙ one_fault n r rs front fault (rw one.1 at e)

  pub is_fault : (fault : ℕ × WorkRule) → StandsBehind text before n front → Found before true fields after → at_record (n + 1) (request_of fields) ≡ Err fault
      → workload_of text ≡ Err fault
  is_fault fault s found e = fault_of fault s.rest (found s.rest s.reads) s.whole e

  -- what a fault of the record says is what the input says
  pub tells_fault : StandsBehind text before n front → Found before true fields after → (fault : WorkFault) → TellsWorkFault (at_record (n + 1) (request_of fields)) fault
      → (result : Result (Vec Request Global) WorkFault) → result ≡ Err fault
      → MatchResult result (λ requests. workload_of text ≡ Ok requests.items) (TellsWorkFault (workload_of text))
  tells_fault s found (Line k rule) e result is = rw is (is_fault (k, rule) s found e)
  tells_fault s found OutOfMemory e result is = rw is tt

  one_left : (rest : List (List (List ℕ))) → ReadsOne rest true fields after → 1 ≤ length rest
  one_left [] one = cc one
  one_left (r ∷ rs) one = omega arith

  pub still_less : StandsBehind text before n front → Found before true fields after → n < 67_108_864
  still_less s found = omega (arith, one_left s.rest (found s.rest s.reads), s.within)

  none_left : (rest : List (List (List ℕ))) → ReadsOne rest false fields after → workload_of text ≡ with_front front (requests_after n rest) → workload_of text ≡ Ok front
  none_left [] one whole = whole ∙ ap Ok (append-nil front)
  none_left (r ∷ rs) one whole = cc one.0

  pub ends : StandsBehind text before n front → Found before false fields after → workload_of text ≡ Ok front
  ends s found = none_left s.rest (found s.rest s.reads) s.whole

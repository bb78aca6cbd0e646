-- The texts of pasts.
use Rattle.std.proofs.Common.{◌≡◌, ◌<◌, ◌^◌, ℕ, zero, suc, List, [], ◌∷◌, map, length, slice_index, Some, Ok, refl, ap, sym, subst, ◌∙◌, arith}
use Rattle.std.specs.Fmt.{decimal}
use Rattle.std.specs.List.{AllByRecursion, join_with_byte}
use Rattle.std.specs.Result.{result_ok}
use Rattle.std.proofs.lemmas.List.{length-map}
use Rattle.market_events.specs.declared.links.TheConstants.{SERVICE_LINKS}
use Rattle.market_events.specs.Counts.{AreCounts}
use Rattle.market_words.specs.Names.{IsId}
use Rattle.market_words.specs.Words.{pieces, number_id}
use Rattle.market_words.proofs.WordCuts.{Lacks, pieces_joined, joined_pieces, lacks-joined}
use Rattle.market_words.proofs.WordNumbers.{decimal_lacks, number_id_word}
use Rattle.market_rows.specs.Reading.{◌then◌, counts_read, past_read}
use Rattle.market_rows.specs.Rows.{past_text}
use Rattle.market_rows.proofs.Readings.{ReadsField, then_apart, ok_apart, some_same}

-- counts in their ranges, by place and one after the other
each_by_place : (cs : List ℕ) → ((k : ℕ) → k < length cs → slice_index cs k < 2 ^ 32) → AllByRecursion IsId cs
each_by_place [] high = tt
each_by_place (c ∷ cs) high =
    let here : c < 2 ^ 32 = high 0 (omega arith) in
    (omega (arith, here), each_by_place cs (λ k below. high (suc k) (omega arith)))

place_by_each : (cs : List ℕ) → AllByRecursion IsId cs → (k : ℕ) → k < length cs → slice_index cs k < 2 ^ 32
place_by_each [] each k below = absurd (omega arith)
place_by_each (c ∷ cs) each zero below = omega (arith, each.0)
place_by_each (c ∷ cs) each (suc k) below = place_by_each cs each.1 k (omega arith)

-- they are read of their words, and of no others
counts_reads : (cs : List ℕ) → AllByRecursion IsId cs → counts_read (length cs) (map decimal cs) ≡ Some cs
counts_reads [] each = refl
counts_reads (c ∷ cs) each = let it : number_id (decimal c) ≡ Ok c = number_id_word.reads c each.0 in rw (it, counts_reads cs each.1)

counts_spelled : (n : ℕ) (ts : List (List ℕ)) (cs : List ℕ) → counts_read n ts ≡ Some cs → (length cs ≡ n) × AllByRecursion IsId cs × (ts ≡ map decimal cs)
counts_spelled zero [] cs e = let is : [] ≡ cs = some_same [] cs e in subst (λ (ds : List ℕ). (length ds ≡ 0) × AllByRecursion IsId ds × ([] ≡ map decimal ds)) is (refl, tt, refl)
counts_spelled zero (t ∷ ts) cs e = absurd (cc)
counts_spelled (suc n) [] cs e = absurd (cc)
counts_spelled (suc n) (t ∷ ts) cs e =
    let first = then_apart (result_ok (number_id t)) (λ c. counts_read n ts then λ ds. Some (c ∷ ds)) cs e in
    let rest = then_apart (counts_read n ts) (λ ds. Some (first.0 ∷ ds)) cs first.2 in
    let is : first.0 ∷ rest.0 ≡ cs = some_same (first.0 ∷ rest.0) cs rest.2 in
    let c = number_id_word.spelled t first.0 (ok_apart (number_id t) first.0 first.1) in
    let ds = counts_spelled n ts rest.0 rest.1 in
    subst (λ (ds : List ℕ). (length ds ≡ suc n) × AllByRecursion IsId ds × (t ∷ ts ≡ map decimal ds)) is
    (ap suc ds.0, (c.0, ds.1), λ i. c.1 i ∷ ds.2 i)

-- their words lack each byte that is no digit
decimals_lack : (c : ℕ) → ((n : ℕ) → IsId n → Lacks c (decimal n)) → (cs : List ℕ) → AllByRecursion IsId cs → AllByRecursion (Lacks c) (map decimal cs)
decimals_lack c one [] each = tt
decimals_lack c one (n ∷ cs) each = (one n each.0, decimals_lack c one cs each.1)

counts_each : (cs : List ℕ) → AreCounts cs → AllByRecursion IsId cs
counts_each cs are = each_by_place cs (λ k below. are.high k (omega (arith, are.each)))

past_reads : (cs : List ℕ) → AreCounts cs → past_read (past_text cs) ≡ Some cs
unfolding past_read
past_reads cs are =
    let each = counts_each cs are in
    ap (counts_read SERVICE_LINKS)
    (pieces_joined 32 (map decimal cs) (omega (arith, are.each, length-map cs decimal)) (decimals_lack 32 (λ n is. decimal_lacks 32 n refl (omega (arith, is))) cs each))
    ∙ ap (λ n. counts_read n (map decimal cs)) (sym are.each) ∙ counts_reads cs each

past_spelled : (t : List ℕ) (cs : List ℕ) → past_read t ≡ Some cs → AreCounts cs × (t ≡ past_text cs)
unfolding past_read
past_spelled t cs e =
    let known = counts_spelled SERVICE_LINKS (pieces 32 t) cs e in
    (record { each = known.0; high = λ k below. place_by_each cs known.1 k (omega (arith, known.0)) }, sym (joined_pieces 32 t) ∙ ap (join_with_byte 32) known.2)

past_bare : (cs : List ℕ) → AreCounts cs → Lacks 44 (past_text cs)
past_bare cs are = lacks-joined 44 32 (map decimal cs) refl (decimals_lack 44 (λ n is. decimal_lacks 44 n refl (omega (arith, is))) cs (counts_each cs are))

pub past_field : ReadsField past_read past_text AreCounts
past_field = record { reads = past_reads; spelled = past_spelled; bare = past_bare }

-- The lines of a basket, and the baskets: what is looked up in them, and what is left where one is set or taken away.
use Rattle.std.proofs.Common.{◌≡◌, ℕ, ◌+◌, ◌≤◌, Bool, true, false, cond, ◌&&◌, ◌||◌, not, nat_le, List, [], ◌∷◌, ◌++◌, Option, Some, None, is_some, length, map, filter_map, find, option_map, unwrap_or, ◌==◌, if◌then◌else◌, refl, ap, sym, ◌∙◌, arith}
use Rattle.std.specs.List.{cons_option}
use Rattle.std.specs.BTreeMap.{is_at}
use Rattle.std.specs.Ordering.{nat_cmp}
use Rattle.std.proofs.lemmas.Bool.Decides.{nat_tests}
use Rattle.std.specs.Map.{keys_of, lookup}
use Rattle.std.specs.List.Sorted.{IsStrictlySortedBy}
use Rattle.std.specs.FinMap.Entries as entries
use Rattle.std.proofs.lemmas.Bool.{leb-false}
use Rattle.std.proofs.lemmas.List.{map-append, append-nil}
use Rattle.std.proofs.lemmas.List.Elements.{filter_map-append}
use Rattle.std.proofs.lemmas.List.Folds.{find-append}
use Rattle.market_amounts.specs.declared.keys.ProductKey.{ProductKey}
use Rattle.market_events.specs.declared.changes.Look.{Look}
use Rattle.market_events.specs.Carts.{Held, has_key, first_gone}
use Rattle.market_events.specs.Looks.{is_live}
use Rattle.market_events.specs.Requests.{same_key}
use Rattle.market_events.specs.Steps.{key_cmp}
use Rattle.market_events.specs.WellFormed.{most_lines}
use Rattle.market_events.proofs.Values.Keys.{eq_by_key_cmp, key_cmp_total, key_cmp-Equal, find-lookup, is_sorted-of}
use Rattle.market_events.proofs.Values.Same.{same_key-swap}
use Rattle.cart_service.specs.Tables.{lines_at, without, ChangesOnly}

-- what a look-up finds in the lines
abbrev pub found : List (ProductKey × Held) → ProductKey → Option Held
found lines key = lookup (is_at (key_cmp key)) lines

-- a product is in the lines where it is found
pub found-has_key : (lines : List (ProductKey × Held)) (key : ProductKey) → is_some (found lines key) ≡ has_key lines key
found-has_key [] key = refl
found-has_key (e ∷ es) key =
    ap (λ b. is_some (cond b (Some e.1) (found es key))) (eq_by_key_cmp key e.0 ∙ same_key-swap key e.0)
    ∙ either (same_key e.0 key) (found es key) ∙ ap (λ b. same_key e.0 key || b) (found-has_key es key)
  where
    either : (b : Bool) (o : Option Held) → is_some (cond b (Some e.1) o) ≡ (b || is_some o)
    either true o = refl
    either false o = refl

-- a line that may be set leaves no more lines than there may be
pub set-few : (lines : List (ProductKey × Held)) (key : ProductKey) (after : ℕ) → (nat_le most_lines (length lines) && not (has_key lines key)) ≡ false → length lines ≤ most_lines
    → after ≡ length lines + (if is_some (found lines key) then 0 else 1) → after ≤ most_lines
set-few lines key after room few is = either (is_some (found lines key)) (found-has_key lines key) is (nat_le most_lines (length lines)) refl room
  where
    either : (b : Bool) → b ≡ has_key lines key → after ≡ length lines + (if b then 0 else 1) → (f : Bool) → nat_le most_lines (length lines) ≡ f → (f && not (has_key lines key)) ≡ false → after ≤ most_lines
    either true has is f full room = omega arith
    either false has is false full room = omega (arith, leb-false most_lines (length lines) full)
    either false has is true full room = let no : not false ≡ false = ap not has ∙ room in cc

-- what is left where a line is taken away
pub removed : (old new : List (ProductKey × Held)) (key : ProductKey) → IsStrictlySortedBy key_cmp (keys_of old) → IsStrictlySortedBy key_cmp (keys_of new)
    → ((q : ProductKey) → found new q ≡ cond (is_at (key_cmp key) q) None (found old q)) → new ≡ without key old
removed old new key rises rising left =
    entries.same_entries key_cmp key_cmp_total key_cmp-Equal new (without key old) (is_sorted-of key_cmp new rising)
    (entries.is_sorted-where_key key_cmp (λ x. not (same_key key x)) old (is_sorted-of key_cmp old rises))
    (λ q. find-lookup key_cmp q new ∙ left q ∙ ap (λ b. cond b None (found old q)) (eq_by_key_cmp key q) ∙ turned (same_key key q) (found old q)
    ∙ ap (λ o. if not (same_key key q) then o else None) (sym (find-lookup key_cmp q old))
    ∙ sym (entries.find-where_key key_cmp (λ x. not (same_key key x)) q (λ x is. ap (λ y. not (same_key key y)) (sym (key_cmp-Equal q x is))) old))
  where
    turned : (b : Bool) (o : Option Held) → cond b None o ≡ (if not b then o else None)
    turned true o = refl
    turned false o = refl

-- the least product that is not live, of the keys
pub first_gone-keys : (look : ProductKey → Look) (lines : List (ProductKey × Held)) → find (λ key. not (is_live (look key))) (keys_of lines) ≡ first_gone look lines
first_gone-keys look [] = refl
first_gone-keys look (e ∷ es) = either (not (is_live (look e.0))) (first_gone-keys look es)
  where
    either : (b : Bool) → find (λ key. not (is_live (look key))) (keys_of es) ≡ first_gone look es
        → cond b (Some e.0) (find (λ key. not (is_live (look key))) (keys_of es)) ≡ option_map (λ (x : ProductKey × Held). x.0) (cond b (Some e) (find (λ (x : ProductKey × Held). not (is_live (look x.0))) es))
    either true rest = refl
    either false rest = rest

-- where none of some first keys is gone, the next one that is gone is the least
pub first_gone-next : (look : ProductKey → Look) (lines : List (ProductKey × Held)) (keys : List ProductKey) (key : ProductKey) (rest : List ProductKey) → keys_of lines ≡ keys ++ key ∷ rest
    → find (λ key. not (is_live (look key))) keys ≡ None → is_live (look key) ≡ false → Some key ≡ first_gone look lines
first_gone-next look lines keys key rest split none gone =
    sym (sym (first_gone-keys look lines) ∙ ap (find (λ key. not (is_live (look key)))) split ∙ find-append (λ key. not (is_live (look key))) keys (key ∷ rest) ∙ rw (none, gone) refl)

-- and where none of all keys is, there is none
pub first_gone-none : (look : ProductKey → Look) (lines : List (ProductKey × Held)) (keys : List ProductKey) → keys ≡ keys_of lines → find (λ key. not (is_live (look key))) keys ≡ None → None ≡ first_gone look lines
first_gone-none look lines keys all none = sym (sym (first_gone-keys look lines) ∙ ap (find (λ key. not (is_live (look key)))) (sym all) ∙ none)

-- one more key that is live
pub none_gone-push : {A : Type 0} (look : ProductKey → Look) (shows : A → ProductKey) (xs : List A) (x : A) → find (λ key. not (is_live (look key))) (map shows xs) ≡ None → is_live (look (shows x)) ≡ true
    → find (λ key. not (is_live (look key))) (map shows (xs ++ x ∷ [])) ≡ None
none_gone-push look shows xs x none live = rw (map-append shows xs (x ∷ []), find-append (λ key. not (is_live (look key))) (map shows xs) (shows x ∷ []), none, live) refl

-- one more line, with its price or without
pub priced-push : {A B C : Type 0} (f : B → Option C) (shows : A → B) (xs : List A) (x : A) (items : List C) (line : C) → items ≡ filter_map f (map shows xs) → f (shows x) ≡ Some line
    → items ++ line ∷ [] ≡ filter_map f (map shows (xs ++ x ∷ []))
priced-push f shows xs x items line so_far is =
    ap (λ ys. ys ++ line ∷ []) so_far ∙ sym (ap (filter_map f) (map-append shows xs (x ∷ [])) ∙ filter_map-append f (map shows xs) (shows x ∷ [])
    ∙ ap (λ o. filter_map f (map shows xs) ++ cons_option o []) is)

-- one more line that has no price changes nothing
pub priced-none : {A B C : Type 0} (f : B → Option C) (shows : A → B) (xs : List A) (x : A) (items : List C) → items ≡ filter_map f (map shows xs) → f (shows x) ≡ None
    → items ≡ filter_map f (map shows (xs ++ x ∷ []))
priced-none f shows xs x items so_far is =
    so_far ∙ sym (ap (filter_map f) (map-append shows xs (x ∷ [])) ∙ filter_map-append f (map shows xs) (shows x ∷ []) ∙ ap (λ o. filter_map f (map shows xs) ++ cons_option o []) is
    ∙ append-nil (filter_map f (map shows xs)))

-- the baskets after one of them is set
pub baskets_set : (old new : List (ℕ × List (ProductKey × Held))) (c : ℕ) (lines : List (ProductKey × Held))
    → ((d : ℕ) → lookup (is_at (nat_cmp d)) new ≡ cond (is_at (nat_cmp c) d) (Some lines) (lookup (is_at (nat_cmp d)) old)) → ChangesOnly old new c lines
baskets_set old new c lines sets d = ap (λ o. unwrap_or o []) (sets d) ∙ either (is_at (nat_cmp c) d) (lookup (is_at (nat_cmp d)) old) ∙ ap (λ b. if b then lines else lines_at old d) (test c d)
  where
    test : (a b : ℕ) → is_at (nat_cmp a) b ≡ (b == a)
    test a b = grind (arith, nat_tests)

    either : (b : Bool) (o : Option (List (ProductKey × Held))) → unwrap_or (cond b (Some lines) o) [] ≡ (if b then lines else unwrap_or o [])
    either true o = refl
    either false o = refl

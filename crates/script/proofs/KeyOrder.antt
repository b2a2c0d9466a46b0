-- In a value that is read, the keys of each object stand in order, each once.
use Rattle.std.proofs.Common.{◌≡◌, ℕ, List, Some, option_map, option_and_then, Ordering, Less, Equal, Greater, refl, subst}
use Rattle.std.specs.List.{AllByRecursion}
use Rattle.std.specs.Ordering.{match_ordering}
use Rattle.std.proofs.lemmas.Option.{option_and_then_some, same_Some}
use Rattle.json.specs.Json as json
use Rattle.json.specs.Lex.{tokens}
use Rattle.script.proofs.KeyLemmas.{key_cmp, keys_of, Ascend, turned, all_above}
use Rattle.script.proofs.LimitLemmas.{behind_test, behind_map}
use Rattle.script.specs.ScriptDocument.{document}
use Rattle.serde_json.specs.Data.{Data, null, boolean, number, string, array, object, Items, no_items, item, Members, no_members, member, put}
use Rattle.serde_json.specs.Read.{of_json, of_items, of_members, number_of, read, max_depth}

-- the keys of each object within stand in order
abbrev mutual
  pub IsInKeyOrder : Data → Type 0
  IsInKeyOrder null = Unit {0}
  IsInKeyOrder (boolean b) = Unit {0}
  IsInKeyOrder (number n) = Unit {0}
  IsInKeyOrder (string s) = Unit {0}
  IsInKeyOrder (array ds) = ItemsInKeyOrder ds
  IsInKeyOrder (object ms) = Ascend (keys_of ms) × MembersInKeyOrder ms

  pub ItemsInKeyOrder : Items → Type 0
  ItemsInKeyOrder no_items = Unit {0}
  ItemsInKeyOrder (item d ds) = IsInKeyOrder d × ItemsInKeyOrder ds

  pub MembersInKeyOrder : Members → Type 0
  MembersInKeyOrder no_members = Unit {0}
  MembersInKeyOrder (member k d ms) = IsInKeyOrder d × MembersInKeyOrder ms

-- ---- one member more

put_above_at : (o : Ordering) (l k m : List ℕ) (d e : Data) (ms : Members) → key_cmp l k ≡ Less → AllByRecursion (λ x. key_cmp l x ≡ Less) (keys_of (member m e ms)) → AllByRecursion (λ x. key_cmp l x ≡ Less) (keys_of (put k d ms))
    → AllByRecursion (λ x. key_cmp l x ≡ Less) (keys_of (match_ordering o (member k d (member m e ms)) (member m d ms) (member m e (put k d ms))))
put_above_at Less l k m d e ms above h more = (above, h)
put_above_at Equal l k m d e ms above h more = h
put_above_at Greater l k m d e ms above h more = (h.0, more)

put_above : (l k : List ℕ) (d : Data) (ms : Members) → key_cmp l k ≡ Less → AllByRecursion (λ x. key_cmp l x ≡ Less) (keys_of ms) → AllByRecursion (λ x. key_cmp l x ≡ Less) (keys_of (put k d ms))
put_above l k d no_members above h = (above, tt)
put_above l k d (member m e ms) above h = put_above_at (key_cmp k m) l k m d e ms above h (put_above l k d ms above h.1)

put_ascends_at : (o : Ordering) (k m : List ℕ) (d e : Data) (ms : Members) → key_cmp k m ≡ o → Ascend (keys_of (member m e ms)) → Ascend (keys_of (put k d ms))
    → Ascend (keys_of (match_ordering o (member k d (member m e ms)) (member m d ms) (member m e (put k d ms))))
put_ascends_at Less k m d e ms is h more = ((is, all_above k m (keys_of ms) is h.0), h)
put_ascends_at Equal k m d e ms is h more = h
put_ascends_at Greater k m d e ms is h more = (put_above m k d ms (turned k m Greater is) h.0, more)

put_ascends : (k : List ℕ) (d : Data) (ms : Members) → Ascend (keys_of ms) → Ascend (keys_of (put k d ms))
put_ascends k d no_members h = (tt, tt)
put_ascends k d (member m e ms) h = put_ascends_at (key_cmp k m) k m d e ms refl h (put_ascends k d ms h.1)

put_keeps_at : (o : Ordering) (k m : List ℕ) (d e : Data) (ms : Members) → IsInKeyOrder d → MembersInKeyOrder (member m e ms) → MembersInKeyOrder (put k d ms)
    → MembersInKeyOrder (match_ordering o (member k d (member m e ms)) (member m d ms) (member m e (put k d ms)))
put_keeps_at Less k m d e ms own h more = (own, h)
put_keeps_at Equal k m d e ms own h more = (own, h.1)
put_keeps_at Greater k m d e ms own h more = (h.0, more)

put_keeps : (k : List ℕ) (d : Data) (ms : Members) → IsInKeyOrder d → MembersInKeyOrder ms → MembersInKeyOrder (put k d ms)
put_keeps k d no_members own h = (own, tt)
put_keeps k d (member m e ms) own h = put_keeps_at (key_cmp k m) k m d e ms own h (put_keeps k d ms own h.1)

-- ---- what is read

mutual
  json_in_order : (j : json.Json) (d : Data) → of_json j ≡ Some d → IsInKeyOrder d
  json_in_order json.null d e = subst IsInKeyOrder (same_Some null d e) tt
  json_in_order (json.boolean b) d e = subst IsInKeyOrder (same_Some (boolean b) d e) tt
  json_in_order (json.number s) d e = behind_map number (number_of s) d e (λ n found is. subst IsInKeyOrder is tt)
  json_in_order (json.string s) d e = subst IsInKeyOrder (same_Some (string s) d e) tt
  json_in_order (json.array js) d e = behind_map array (of_items js) d e (λ ds found is. subst IsInKeyOrder is (items_in_order js ds found))
  json_in_order (json.object ms) d e = behind_map object (of_members ms no_members) d e (λ ns found is. subst IsInKeyOrder is (members_in_order ms no_members ns tt tt found))

  items_in_order : (js : json.Items) (ds : Items) → of_items js ≡ Some ds → ItemsInKeyOrder ds
  items_in_order json.no_items ds e = subst ItemsInKeyOrder (same_Some no_items ds e) tt
  items_in_order (json.item j js) ds e =
      option_and_then_some (λ d. option_map (item d) (of_items js)) (of_json j) ds e (λ d first rest.
      behind_map (item d) (of_items js) ds rest (λ es found is. subst ItemsInKeyOrder is (json_in_order j d first, items_in_order js es found)))

  members_in_order : (ms : json.Members) (old new : Members) → Ascend (keys_of old) → MembersInKeyOrder old → of_members ms old ≡ Some new → Ascend (keys_of new) × MembersInKeyOrder new
  members_in_order json.no_members old new up within e = subst (λ ns. Ascend (keys_of ns) × MembersInKeyOrder ns) (same_Some old new e) (up, within)
  members_in_order (json.member k j ms) old new up within e =
      option_and_then_some (λ d. of_members ms (put k d old)) (of_json j) new e (λ d first rest.
      members_in_order ms (put k d old) new (put_ascends k d old up) (put_keeps k d old (json_in_order j d first) within) rest)

pub read_in_order : (text : List ℕ) (d : Data) → read text ≡ Some d → IsInKeyOrder d
read_in_order text d e = option_and_then_some of_json (option_and_then (λ p. json.if_last p.0 p.1) (json.value max_depth (tokens text))) d e (λ j found is. json_in_order j d is)

-- the keys of a document stand in order
pub document_in_order : (bytes : List ℕ) (d : Data) → document bytes ≡ Some d → IsInKeyOrder d
unfolding document
document_in_order bytes d e = read_in_order bytes d (behind_test _ (read bytes) d e)

-- The sessions of a text in which nothing fails keep the rules of sessions, as the table has them.
use Rattle.std.{proofs.{Common.{◌≡◌, ℕ, ◌≤◌, Option, Some, None, List, [], length, map, refl, sym, ap, ◌∙◌}, lemmas.List.{length-map}, lemmas.Option.{slice_get-map}}, specs.{List.{slice_get}, Option.{option_map}}}
use Rattle.df_layout.specs.declared.layout.Layout as file
use Rattle.df_sessions.specs.declared.session.Session as table
use Rattle.df_theory.specs.Units as model
use Rattle.df_units.specs.Meaning.{layout_of}
use Rattle.df_trailer.{specs.{declared.fault.Failing.{Failing}, declared.reader.Reader.{Reader}, Reading.{HasRead, failing_in}, Rooms.{without_reply}, Sessions.{AreReadSessions, IsReadSession}, Text.{count, fault, fault_in, parts_of, sessions_at}}, proofs.{Fed.{fails_as_read}, Read.{fine}, Rules.{KeepRules}}}
use Rattle.df_trailer.proofs.Sessions as sessions

-- a session of the table is one of the text, without a reply
record IsFrom (xs : List model.Session) (k : ℕ) (s : table.Session) : Type 0 where
  from : model.Session
  at : slice_get xs k ≡ Some from
  is : s ≡ without_reply from

from_list : (xs : List model.Session) (k : ℕ) (s : table.Session) → slice_get (map without_reply xs) k ≡ Some s → IsFrom xs k s
from_list xs k s at = pick (slice_get xs k) refl (sym (slice_get-map without_reply xs k) ∙ at)
  where
    pick : (o : Option model.Session) → slice_get xs k ≡ o → option_map without_reply (slice_get xs k) ≡ Some s → IsFrom xs k s
    pick None there is = absurd (let no : option_map without_reply None ≡ Some s = rw there at is in cc)
    pick (Some x) there is = let yes : option_map without_reply (Some x) ≡ Some s = rw there at is in
        record { from = x; at = there; is = (let one : without_reply x ≡ s = cc in sym one) }

rules_listed : (places op : ℕ) (xs : List model.Session)
    → length xs ≤ places → KeepRules op [] xs → AreReadSessions places op (map without_reply xs)
rules_listed places op xs few keep = record {
  few = rw (sym (length-map xs without_reply)) at few;
  each = λ k s at. let f = from_list xs k s at in let rules = keep.each k f.from f.at in
      rw f.is (record { client = rules.0; request = (rules.1, rules.2); op_is = (rules.3, rules.4); reply = refl });
  clients = λ j k s t one two same. let f = from_list xs j s one in let g = from_list xs k t two in keep.clients
      j k f.from g.from f.at g.at (sym (ap (λ (x : table.Session). x.client) f.is) ∙ same ∙ ap (λ (x : table.Session). x.client) g.is);
  ops = λ j k s t one two same. let f = from_list xs j s one in let g = from_list xs k t two in
      keep.ops j k f.from g.from f.at g.at (sym (ap (λ (x : table.Session). x.op) f.is) ∙ same ∙ ap (λ (x : table.Session). x.op) g.is);
}

pub sessions_listed : (layout : file.Layout) (op : ℕ) (text : List ℕ) (r : Reader) (ss : List table.Session)
    → failing_in r ≡ None → HasRead layout op r text → ss ≡ map without_reply (parts_of (layout_of layout) text).sessions
    → AreReadSessions layout.clients op ss
sessions_listed layout op text r ss none read is = let clean : fault (layout_of layout) op text ≡ None =
    ap (λ (o : Option Failing). fault_in o) (sym (fails_as_read layout op text r read) ∙ none) in
    let f = fine (layout_of layout) op text clean in rw (sym is) at (rules_listed layout.clients
    op (parts_of (layout_of layout) text).sessions (rw (sym (sessions.length_read (count text) (sessions_at text) text)) at f.few) f.rules)

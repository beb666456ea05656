-- A list of rows as a map.
use Rattle.std.{proofs.{Common.{◌≡◌, ℕ, suc, ◌<◌, eqb, cond, Bool, true, false, List, [], ◌∷◌, length, Option, Some, None, refl, sym, ap, ◌∙◌, arith}, lemmas.Bool.{lt-ltb}, lemmas.List.{nil_from_length}}, specs.{Ordering.{nat_cmp}, Cmp.{nat_cmp_total}, FinMap.{put, nat_cmp-IsAntisymmetric, same_map, get-from_entries, get-insert, get-remove, entries-insert, len-entries, len-empty}}}
use Rattle.std.specs.FinMap as map
use Rattle.df_rows.{specs.{Rows.{Entry}, Commands.{Map}, Sorted.{KeysRise}}, proofs.{Found.{find_looks, look, tied}, Edited.{Drops, Puts}}}

-- the map of these rows
abbrev pub map_of : List Entry → Map
map_of es = map.from_entries {R = nat_cmp} es

pub get_looks : (es : List Entry) (q : ℕ) → map.get (map_of es) q ≡ look q es
get_looks es q = get-from_entries nat_cmp_total es q ∙ find_looks q es

pub same_maps : (m n : Map) → ((q : ℕ) → map.get m q ≡ map.get n q) → m ≡ n
same_maps m n same = same_map nat_cmp_total nat_cmp-IsAntisymmetric m n same

pub get_inserted : (m : Map) (k : ℕ) (v : List ℕ) (q : ℕ) → map.get (map.insert m k v) q ≡ cond (eqb q k) (Some v) (map.get m q)
get_inserted m k v q = get-insert nat_cmp_total m k v q ∙ ap (λ b. cond b (Some v) (map.get m q)) (tied q k)

pub get_removed : (m : Map) (k q : ℕ) → map.get (map.remove m k) q ≡ cond (eqb q k) None (map.get m q)
get_removed m k q = get-remove nat_cmp_total m k q ∙ ap (λ b. cond b None (map.get m q)) (tied q k)

-- ---- edits

pub inserted : (old new : List Entry) (e : Entry) → Puts old new e → map_of new ≡ map.insert (map_of old) e.0 e.1
inserted old new e puts = same_maps _ _ (λ q. get_looks new q ∙ puts q
    ∙ ap (λ (o : Option (List ℕ)). cond (eqb q e.0) (Some e.1) o) (sym (get_looks old q)) ∙ sym (get_inserted (map_of old) e.0 e.1 q))

pub removed : (old new : List Entry) (k : ℕ) → Drops old new k → map_of new ≡ map.remove (map_of old) k
removed old new k drops = same_maps _ _ (λ q. get_looks new q
    ∙ drops q ∙ ap (λ (o : Option (List ℕ)). cond (eqb q k) None o) (sym (get_looks old q)) ∙ sym (get_removed (map_of old) k q))

-- a key that isn't there goes with nothing
unchanged : (b : Bool) (o : Option (List ℕ)) → (b ≡ true → o ≡ None) → o ≡ cond b None o
unchanged true o none = none refl
unchanged false o none = refl

pub none_removed : (m : Map) (k : ℕ) → map.get m k ≡ None → m ≡ map.remove m k
none_removed m k none = same_maps _ _ (λ q.
    unchanged (eqb q k) (map.get m q) (λ same. ap (λ (n : ℕ). map.get m n) (Rattle.std.proofs.lemmas.Bool.eqb-true q k same) ∙ none)
    ∙ sym (get_removed m k q))

-- ---- the entries in order

pub no_entries : map.entries {X = List ℕ} {R = nat_cmp} map.empty ≡ []
no_entries = nil_from_length _ (sym (len-entries {X = List ℕ} {R = nat_cmp} map.empty) ∙ len-empty nat_cmp (List ℕ))

put_first : (e : Entry) (es : List Entry) → KeysRise (e ∷ es) → put nat_cmp e.0 e.1 es ≡ e ∷ es
put_first e [] rise = refl
put_first e (f ∷ es) rise = let below : e.0 < f.0 = rise 0 1 (omega arith) (omega arith) in rw (lt-ltb e.0 f.0 below) refl

pub rise_tail : (e : Entry) (es : List Entry) → KeysRise (e ∷ es) → KeysRise es
rise_tail e es rise i j lt inside = rise (suc i) (suc j) (omega arith) (omega arith)

pub entries_of : (es : List Entry) → KeysRise es → map.entries (map_of es) ≡ es
entries_of [] rise = no_entries
entries_of (e ∷ es) rise = entries-insert nat_cmp_total (map_of es) e.0 e.1
    ∙ ap (λ (l : List Entry). put nat_cmp e.0 e.1 l) (entries_of es (rise_tail e es rise)) ∙ put_first e es rise

pub len_of : (es : List Entry) → KeysRise es → map.len (map_of es) ≡ length es
len_of es rise = len-entries (map_of es) ∙ ap length (entries_of es rise)

-- Rows that fit stay such as a table changes.
use Rattle.std.{proofs.{Common.{◌≡◌, ℕ, List, [], ◌∷◌, Bool, true, false, cond, eqb, length, get_or, Option, Some, None, refl, sym, ◌∙◌, ap, subst, arith}, lemmas.List.Elements.{All-cons, All-from_get_or, All-head, All-nil, All-tail}, lemmas.Bool.{eqb-true}}, specs.{List.{All}, Ordering.{nat_cmp}, declared.cmp.Ordering.{Ordering}, declared.cmp.Ordering.TheVariants.{Less, Equal, Greater}, Cmp.{nat_cmp_total}, FinMap.{entries-insert, get-entries, put}, FinMap.Entries.{by_order}}}
use Rattle.std.specs.FinMap as finite
use Rattle.df_rows.{specs.{declared.command.Command.{Command}, declared.command.Command.TheVariants.{Drop, Put}, Rows.{Entry, IsEntry}, Commands.{IsCommand, Map}, Tables.{Table, with_command, with_row, with_rows}}, proofs.{Viewed.{get_removed, no_entries}, Found.{find_looks, found_at, look}, Taken.{entries_rise}}}

put_case : (k : ℕ) (v : List ℕ) (x : Entry) (es rest : List Entry) → IsEntry (k, v)
    → All IsEntry (x ∷ es) → All IsEntry rest → (o : Ordering) → All IsEntry (by_order o ((k, v) ∷ x ∷ es) ((x.0, v) ∷ es) (x ∷ rest))
put_case k v x es rest fits all more Less = All-cons IsEntry (k, v) (x ∷ es) fits all
put_case k v x es rest fits all more Equal =
    All-cons IsEntry (x.0, v) es (record { key = (All-head IsEntry x es all).key; value = fits.value }) (All-tail IsEntry x es all)
put_case k v x es rest fits all more Greater = All-cons IsEntry x rest (All-head IsEntry x es all) more

put_fits : (k : ℕ) (v : List ℕ) (es : List Entry) → IsEntry (k, v) → All IsEntry es → All IsEntry (put nat_cmp k v es)
put_fits k v [] fits all = All-cons IsEntry (k, v) [] fits all
put_fits k v (x ∷ es) fits all =
    put_case k v x es (put nat_cmp k v es) fits all (put_fits k v es fits (All-tail IsEntry x es all)) (nat_cmp k x.0)

-- what is found among rows that fit does
look_case : (q : ℕ) (v : List ℕ) (x : Entry) (later : Option (List ℕ))
    → IsEntry x → (later ≡ Some v → IsEntry (q, v)) → (b : Bool) → eqb q x.0 ≡ b → cond b (Some x.1) later ≡ Some v → IsEntry (q, v)
look_case q v x later fits more true same found = let value : x.1 ≡ v = cc in
    record { key = omega (arith, fits.key, eqb-true q x.0 same); value = omega (arith, fits.value, ap (λ (l : List ℕ). length l) value) }
look_case q v x later fits more false same found = more found

look_fits : (q : ℕ) (v : List ℕ) (es : List Entry) → All IsEntry es → look q es ≡ Some v → IsEntry (q, v)
look_fits q v [] all found = absurd (cc (found))
look_fits q v (x ∷ es) all found =
    look_case q v x (look q es) (All-head IsEntry x es all) (λ is. look_fits q v es (All-tail IsEntry x es all) is) (eqb q x.0) refl found

still_there : (b : Bool) (o : Option (List ℕ)) (v : List ℕ) → cond b None o ≡ Some v → o ≡ Some v
still_there true o v is = absurd (cc (is))
still_there false o v is = is

-- each row of the map fits
abbrev pub AreRowsFit : Map → Type 0
AreRowsFit rows = All IsEntry (finite.entries rows)

insert_fits : (rows : Map) (e : Entry) → IsEntry e → AreRowsFit rows → AreRowsFit (finite.insert rows e.0 e.1)
insert_fits rows e fits all = subst (λ (l : List Entry).
    All IsEntry l) (sym (entries-insert nat_cmp_total rows e.0 e.1)) (put_fits e.0 e.1 (finite.entries rows) fits all)

remove_fits : (rows : Map) (key : ℕ) → AreRowsFit rows → AreRowsFit (finite.remove rows key)
remove_fits rows key all = let new = finite.entries (finite.remove rows key) in All-from_get_or IsEntry new (0, []) (λ i inside.
    let e : Entry = get_or new i (0, []) in
    let there : look e.0 new ≡ Some e.1 = found_at new (entries_rise (finite.remove rows key)) e.0 i (record { inside = inside; has = refl }) in
    let got : finite.get (finite.remove rows key) e.0 ≡ Some e.1 = get-entries (finite.remove rows key) e.0 ∙ find_looks e.0 new ∙ there in
    let before : finite.get rows e.0 ≡ Some e.1 = still_there (eqb e.0 key) (finite.get rows e.0) e.1 (sym (get_removed rows key e.0) ∙ got) in
    look_fits e.0 e.1 (finite.entries rows) all (sym (find_looks e.0 (finite.entries rows)) ∙ sym (get-entries rows e.0) ∙ before))

pub none_fits : AreRowsFit finite.empty
none_fits = subst (λ (l : List Entry). All IsEntry l) (sym no_entries) (All-nil IsEntry)

pub command_fits : (t : Table) (c : Command) → IsCommand c → AreRowsFit t.rows → AreRowsFit (with_command c t).rows
command_fits t (Put e) fits all = insert_fits t.rows e fits all
command_fits t (Drop key) fits all = remove_fits t.rows key all

pub rows_fit : (t : Table) (es : List Entry) → All IsEntry es → AreRowsFit t.rows → AreRowsFit (with_rows es t).rows
rows_fit t [] are all = all
rows_fit t (e ∷ es) are all = rows_fit (with_row e t) es (All-tail IsEntry e es are) (insert_fits t.rows e (All-head IsEntry e es are) all)

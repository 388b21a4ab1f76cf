-- CREATE TABLE and CREATE VIEW keep a card sound.
use Rattle.std.proofs.Common.{◌≡◌, ℕ, ◌+◌, ◌-◌, ◌≤◌, Bool, true, false, cond, not, ◌&&◌, ltb, leb, List, [], ◌∷◌, ◌++◌, length, is_some, Some, None, filter, Option, sym, refl, ap, ◌∙◌, subst, arith}
use Rattle.std.proofs.lemmas.Bool.{not-true, both_ways, and_parts, leb-true, ltb-true}
use Rattle.std.proofs.lemmas.List.{map-append, length-append}
use Rattle.std.proofs.ByRecursion.{All-weaker, All-push}
use Rattle.std.proofs.lemmas.List.Sums.{sum_by_push}
use Rattle.fields.specs.Reader.{got, Parameter}
use Rattle.commands.specs.Command.{Selected}
use Rattle.commands.specs.Parsers.{selection_at}
use Rattle.cardmodel.specs.Lists.{all}
use Rattle.cardmodel.specs.State.{Bytes, Id, a_table, a_view, Object, Privilege, Catalogue, Rows, Card}
use Rattle.cardmodel.specs.Objects.{same, is_table, limit_of, named, object_named, table_named, columns_in, selection_in, Window, window, shown_column}
use Rattle.cardmodel.specs.Registers.{has_space, with_one}
use Rattle.cardmodel.specs.Rights.{owns, rank_of, creates_tables}
use Rattle.cardmodel.specs.Storing.{table_count, makes_table}
use Rattle.cardmodel.specs.CatalogueRules.{altered, with_rows, with_emptied, row_sum, first_foreign, condition_columns, names_in, creating_table, creating_view}
use Rattle.cardmodel.specs.CursorRules.{through}
use Rattle.cardmodel.specs.Answer.{Capacities}
use Rattle.cardmodel.proofs.Lists.{In, In-all, all-In, none-In, none_some, first_none, none_first, any_none, kept-++}
use Rattle.cardmodel.proofs.Names.{same_true, differ_back}
use Rattle.cardmodel.proofs.Checks.{Holds, holds_unless, holds_unless_at, holds_found}
use Rattle.cardmodel.proofs.Options.{is_none}
use Rattle.cardlaws.specs.Sound.{one_name, placed, Formed, UniqueIn, RowsFormed, RowsOf, Granted, Sound}
use Rattle.cardlaws.specs.Definitions.{Says}
use Rattle.cardlaws.proofs.Apart.{apart_add}
use Rattle.cardlaws.proofs.Registers.{sized_one}
use Rattle.cardlaws.proofs.Windows.{table_window, table_found, object_found, table_added, object_added, window_added, formed_added}
use Rattle.cardlaws.proofs.KeptCursor.{cursor_sound, behind_same}
use Rattle.cardlaws.proofs.Readings.{texts}
use Rattle.cardlaws.proofs.Reread.{TableReads}

-- a name that no object has is no table's name
pub no_table : (os : List Object) (n : Bytes) → object_named os n ≡ None → table_named os n ≡ None
unfolding object_named table_named
no_table os n e = none_first (λ o. named n o && is_table o) os
    (any_none (λ o. named n o && is_table o) os (λ o i. rw (none-In (named n) i (first_none (named n) os e)) refl))

nobody_named : (os : List Object) (n : Bytes) (o : Object) → object_named os n ≡ None → In o os → same n o.name ≡ false
unfolding object_named
nobody_named os n o e i = differ_back o.name n (none-In (named n) i (first_none (named n) os e))

-- what is not found in more objects is not found in fewer
table_missing : (os : List Object) (x : Object) (n : Bytes) → table_named (os ++ (x ∷ [])) n ≡ None → table_named os n ≡ None
table_missing os x n e = go (table_named os n) refl
  where
    go : (o : Option Object) → table_named os n ≡ o → table_named os n ≡ None
    go None h = h
    go (Some t) h = absurd (none_some (sym e ∙ table_added os x n t h))

-- rows that are emptied and were none stay as they were
pub emptied_none : (rows : Rows) (t : Bytes) → rows t ≡ [] → (n : Bytes) → with_rows rows t [] n ≡ rows n
emptied_none rows t e n = go (same n t) refl
  where
    go : (b : Bool) → same n t ≡ b → cond b [] (rows n) ≡ rows n
    go true h = sym (ap rows (same_true n t h) ∙ e)
    go false h = refl

-- a table without rows is well formed
no_rows : (o : Object) → RowsFormed o []
no_rows o = record { within_limit = omega arith; cells = tt; unique = In-all (UniqueIn []) (placed 0 (columns_in o.definition)) (λ p i e. tt) }

granted_beside : (k : Catalogue) (x : Object) (free : ℕ) (p : Privilege) → Granted k p →
    Granted (record { users = k.users; objects = with_one k.objects x; privileges = k.privileges; free = free }) p
granted_beside k x free p g = record {
  object = g.object;
  stands = object_added k.objects.records x p.object g.object g.stands;
  owned = g.owned;
  grantee = g.grantee;
  admits = g.admits;
  some = g.some;
}

count_more : (os : List Object) (x : Object) → table_count (os ++ (x ∷ [])) ≡ table_count os + length (filter is_table (x ∷ []))
count_more os x = ap length (kept-++ is_table os (x ∷ [])) ∙ length-append (filter is_table os) (filter is_table (x ∷ []))

-- what a selection names depends on its strings alone
abbrev every_third : List Bytes → List Bytes
every_third [] = []
every_third (c ∷ []) = []
every_third (c ∷ (o ∷ [])) = []
every_third (c ∷ (o ∷ (s ∷ ts))) = c ∷ every_third ts

condition_texts : (ps : List Parameter) → texts (condition_columns ps) ≡ every_third (texts ps)
condition_texts [] = refl
condition_texts (c ∷ []) = refl
condition_texts (c ∷ (o ∷ [])) = refl
condition_texts (c ∷ (o ∷ (s ∷ ps))) = ap (λ ts. c.bytes ∷ ts) (condition_texts ps)

names_texts : (s t : Selected) → Says s t → texts (names_in s) ≡ texts (names_in t)
names_texts s t h =
    map-append (λ p. p.bytes) s.columns (condition_columns s.conditions)
    ∙ rw (condition_texts s.conditions, h.columns, h.conditions)
    (sym (map-append (λ p. p.bytes) t.columns (condition_columns t.conditions) ∙ rw (condition_texts t.conditions) refl))

shown_texts : Window → List Bytes → Bool
shown_texts w ts = all (λ n. is_some (shown_column w n)) ts

all_shown : (w : Window) (ps : List Parameter) → first_foreign w ps ≡ None → shown_texts w (texts ps) ≡ true
unfolding shown_texts
all_shown w [] e = refl
all_shown w (p ∷ ps) e = go (is_some (shown_column w p.bytes)) (all_shown w ps) e
  where
    go : (b : Bool) → (first_foreign w ps ≡ None → all (λ n. is_some (shown_column w n)) (texts ps) ≡ true) →
        cond b (first_foreign w ps) (Some p.place) ≡ None → (b && all (λ n. is_some (shown_column w n)) (texts ps)) ≡ true
    go true ih e = ih e
    go false ih e = absurd (none_some (sym e))

none_foreign : (w : Window) (ps : List Parameter) → shown_texts w (texts ps) ≡ true → first_foreign w ps ≡ None
unfolding shown_texts
none_foreign w [] e = refl
none_foreign w (p ∷ ps) e = go (is_some (shown_column w p.bytes)) (none_foreign w ps) e
  where
    go : (b : Bool) → (all (λ n. is_some (shown_column w n)) (texts ps) ≡ true → first_foreign w ps ≡ None) →
        (b && all (λ n. is_some (shown_column w n)) (texts ps)) ≡ true → cond b (first_foreign w ps) (Some p.place) ≡ None
    go true ih e = ih e
    go false ih e = absurd (both_ways false refl e)

foreign_says : (w : Window) (s t : Selected) → Says s t → first_foreign w (names_in t) ≡ None → first_foreign w (names_in s) ≡ None
foreign_says w s t h e = none_foreign w (names_in s) (rw (names_texts s t h) (all_shown w (names_in t) e))

module _ (total : ℕ) (z : Capacities) (c : Card) (u : Id) (sound : Sound total z c) (present : c.current ≡ Some u) where
  object_more : (x : Object) (free : ℕ) (emptied : Option Bytes) → object_named c.catalogue.objects.records x.name ≡ None → has_space c.catalogue.objects ≡ true →
      Formed (c.catalogue.objects.records ++ (x ∷ [])) x →
      ((n : Bytes) → with_emptied c.rows emptied n ≡ c.rows n) →
      table_count (c.catalogue.objects.records ++ (x ∷ [])) ≤ 16 →
      free + limit_of x.kind ≡ c.catalogue.free →
      Sound total z (altered c (record {
        catalogue = record { users = c.catalogue.users; objects = with_one c.catalogue.objects x; privileges = c.catalogue.privileges; free = free };
        emptied = emptied;
      }))
  object_more x free emptied fresh space form rows_same count sum = record {
    names = apart_add one_name os x sound.names (λ y i. nobody_named os x.name y fresh i);
    ids = sound.ids;
    pairs = sound.pairs;
    objects = All-push (Formed (os ++ (x ∷ []))) os x (All-weaker (Formed os) _ (λ o f. formed_added os o x f) os sound.objects) form;
    privileges = All-weaker (Granted c.catalogue) _ (granted_beside c.catalogue x free) c.catalogue.privileges.records sound.privileges;
    rows = All-push (RowsOf (with_emptied c.rows emptied)) os x
        (All-weaker (RowsOf c.rows) _ (λ o r t. subst (RowsFormed o) (sym (rows_same o.name)) (r t)) os sound.rows)
        (λ t. subst (RowsFormed x) (sym (rows_same x.name ∙ sound.elsewhere x.name (no_table os x.name fresh))) (no_rows x));
    elsewhere = λ t e. rows_same t ∙ sound.elsewhere t (table_missing os x t e);
    tables = count;
    sum = let p = sum_by_push (λ (o : Object). limit_of o.kind) os x in let q = sound.sum in omega arith;
    users_sized = sound.users_sized;
    objects_sized = sized_one c.catalogue.objects x z.objects space sound.objects_sized;
    privileges_sized = sound.privileges_sized;
    current = sound.current;
    cursor = cursor_sound c.catalogue _ c.rows (with_emptied c.rows emptied) c.current c.cursor sound.cursor
        (λ v s e h _. record {
          stands = object_added os x s.object.name s.object h.stands;
          reached = h.reached;
          window = window_added os s.object x (all-In (Formed os) sound.objects (object_found os s.object.name s.object h.stands).0);
          rows = behind_same c.rows (with_emptied c.rows emptied) (through c.catalogue s) (λ n e. rows_same n);
        });
  }
    where
      os : List Object
      os = c.catalogue.objects.records

  pub creating_table_sound : (name : Parameter) (definition : Bytes) (limit : ℕ) → TableReads definition →
      Holds (λ a. Sound total z (altered c a)) (creating_table c.catalogue u name definition limit)
  unfolding creating_table makes_table
  creating_table_sound name definition limit reads =
      holds_unless _ (creates_tables (rank_of c.catalogue.users.records u)) _ _ (λ _.
      holds_unless _ (not (is_some (object_named c.catalogue.objects.records name.bytes))) _ _ (λ fresh.
      holds_unless _ ((leb (length definition) 200 && leb (row_sum (columns_in definition)) 240) && has_space c.catalogue.objects) _ _ (λ fits.
      holds_unless _ (makes_table c.catalogue limit) _ _ (λ makes.
      let f = and_parts (leb (length definition) 200 && leb (row_sum (columns_in definition)) 240) (has_space c.catalogue.objects) fits in
      let g = and_parts (leb (length definition) 200) (leb (row_sum (columns_in definition)) 240) f.0 in
      let m = and_parts (ltb (table_count c.catalogue.objects.records) 16) ((leb 1 limit && leb limit 255) && leb limit c.catalogue.free) makes in
      let n = and_parts (leb 1 limit && leb limit 255) (leb limit c.catalogue.free) m.1 in
      let r = and_parts (leb 1 limit) (leb limit 255) n.0 in
      let new = is_none (object_named c.catalogue.objects.records name.bytes) (not-true (is_some (object_named c.catalogue.objects.records name.bytes)) fresh) in
      object_more (record { name = name.bytes; owner = u; kind = a_table limit; definition = definition }) (c.catalogue.free - limit) (Some name.bytes) new f.1
      (record {
        least = reads.least;
        most = reads.most;
        reads = reads.reads;
        short = leb-true _ _ g.0;
        storable = leb-true _ _ g.1;
        limit_least = leb-true _ _ r.0;
        limit_most = leb-true _ _ r.1;
      })
      (emptied_none c.rows name.bytes (sound.elsewhere name.bytes (no_table c.catalogue.objects.records name.bytes new)))
      (let l = ltb-true _ _ m.0 in
      let p = count_more c.catalogue.objects.records (record { name = name.bytes; owner = u; kind = a_table limit; definition = definition }) in omega arith)
      (let l = leb-true _ _ n.1 in omega arith)))))

  pub creating_view_sound : (name : Parameter) (definition : Bytes) (s : Selected) →
      selection_at definition 0 ≡ got (selection_in definition) (length definition) → Says (selection_in definition) s →
      Holds (λ a. Sound total z (altered c a)) (creating_view c.catalogue u name definition s)
  unfolding creating_view
  creating_view_sound name definition s reads says =
      holds_found _ (table_named c.catalogue.objects.records s.source.bytes) _ _ (λ t stands.
      holds_unless _ (owns u t) _ _ (λ owned.
      holds_unless_at _ (first_foreign (window c.catalogue.objects.records t) (names_in s)) _ _ (λ names.
      holds_unless _ (not (is_some (object_named c.catalogue.objects.records name.bytes))) _ _ (λ fresh.
      holds_unless _ (leb (length definition) 200 && has_space c.catalogue.objects) _ _ (λ fits.
      let f = and_parts (leb (length definition) 200) (has_space c.catalogue.objects) fits in
      let new = is_none (object_named c.catalogue.objects.records name.bytes) (not-true (is_some (object_named c.catalogue.objects.records name.bytes)) fresh) in
      let x : Object = record { name = name.bytes; owner = u; kind = a_view; definition = definition } in
      object_more x c.catalogue.free None new f.1
      (record {
        reads = reads;
        short = leb-true _ _ f.0;
        table = t;
        stands = table_added c.catalogue.objects.records x _ t (rw says.source stands);
        owned = same_true t.owner u owned;
        columns = rw (table_window c.catalogue.objects.records (c.catalogue.objects.records ++ (x ∷ [])) t (table_found c.catalogue.objects.records s.source.bytes t stands).2)
            (foreign_says (window c.catalogue.objects.records t) (selection_in definition) s says names);
      })
      (λ n. refl)
      (let p = count_more c.catalogue.objects.records x in let q = sound.tables in omega arith)
      (omega arith))))))

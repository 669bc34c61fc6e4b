-- The tables, the ancestors of the names and the counts after an entry.
use Rattle.std.specs.Prelude.{ℕ, ◌+◌, ◌*◌, cond, List, set, ltb}
use Rattle.syntax.specs.Reading.{most_names}
use Rattle.names.specs.Ancestors.{name_of, entered}
use Rattle.entry.specs.declared.Form.{Form}
use Rattle.entry.specs.declared.Shape.{Shape}
use Rattle.entry.specs.declared.Entry.{Entry}
use Rattle.entry.specs.declared.Entry.TheVariants.{Named, Typed, Valued, Rights, Formed, Last}

-- the tables after an entry
unfoldable pub names_after : Entry → Shape → List ℕ → List ℕ
names_after (Named w) h t = set t (h.names + 2) w
names_after (Typed w s d) h t = t
names_after (Valued w) h t = t
names_after (Rights s) h t = t
names_after (Formed f) h t = t
names_after Last h t = t

-- the ancestors of the names, after n of them
unfoldable pub ancestors_after : Entry → ℕ → List ℕ → List ℕ
ancestors_after (Named w) n t = cond (ltb (n + 2) most_names) (entered t (n + 2) (name_of w)) t
ancestors_after (Typed w s d) n t = t
ancestors_after (Valued w) n t = t
ancestors_after (Rights s) n t = t
ancestors_after (Formed f) n t = t
ancestors_after Last n t = t

unfoldable pub types_after : Entry → Shape → List ℕ → List ℕ
types_after (Named w) h t = t
types_after (Typed w s d) h t = set t h.types w
types_after (Valued w) h t = t
types_after (Rights s) h t = t
types_after (Formed f) h t = t
types_after Last h t = t

unfoldable pub sets_after : Entry → Shape → List ℕ → List ℕ
sets_after (Named w) h t = t
sets_after (Typed w s d) h t = set t h.types s
sets_after (Valued w) h t = t
sets_after (Rights s) h t = t
sets_after (Formed f) h t = t
sets_after Last h t = t

unfoldable pub depths_after : Entry → Shape → List ℕ → List ℕ
depths_after (Named w) h t = t
depths_after (Typed w s d) h t = set t h.types d
depths_after (Valued w) h t = t
depths_after (Rights s) h t = t
depths_after (Formed f) h t = t
depths_after Last h t = t

unfoldable pub values_after : Entry → Shape → List ℕ → List ℕ
values_after (Named w) h t = t
values_after (Typed w s d) h t = t
values_after (Valued w) h t = set t h.values w
values_after (Rights s) h t = t
values_after (Formed f) h t = t
values_after Last h t = t

unfoldable pub heads_after : Entry → Shape → List ℕ → List ℕ
heads_after (Named w) h t = t
heads_after (Typed w s d) h t = t
heads_after (Valued w) h t = t
heads_after (Rights s) h t = t
heads_after (Formed f) h t = set t h.cmds f.head
heads_after Last h t = t

unfoldable pub five_at : List ℕ → ℕ → Form → List ℕ
five_at t i f = set (set (set (set (set t i f.a) (i + 1) f.b) (i + 2) f.c) (i + 3) f.d) (i + 4) f.e

unfoldable pub slots_after : Entry → Shape → List ℕ → List ℕ
slots_after (Named w) h t = t
slots_after (Typed w s d) h t = t
slots_after (Valued w) h t = t
slots_after (Rights s) h t = t
slots_after (Formed f) h t = five_at t (h.cmds * 5) f
slots_after Last h t = t

unfoldable pub shape_after : Entry → Shape → Shape
shape_after (Named w) h = record { names = h.names + 1; types = h.types; values = h.values; cmds = h.cmds; rights = h.rights }
shape_after (Typed w s d) h = record { names = h.names; types = h.types + 1; values = h.values; cmds = h.cmds; rights = h.rights }
shape_after (Valued w) h = record { names = h.names; types = h.types; values = h.values + 1; cmds = h.cmds; rights = h.rights }
shape_after (Rights s) h = record { names = h.names; types = h.types; values = h.values; cmds = h.cmds; rights = s }
shape_after (Formed f) h = record { names = h.names; types = h.types; values = h.values; cmds = h.cmds + 1; rights = h.rights }
shape_after Last h = h

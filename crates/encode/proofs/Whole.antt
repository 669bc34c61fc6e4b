-- All entries: four tables, the rights, the end.
use mathlib.Core.Path.{◌≡◌, refl, sym, ap}
use Prim.Native.Nat.{ℕ, ◌+◌, ◌*◌, ◌^◌, ◌≤◌, ◌<◌}
use native.Mathlib.Omega.{arith}
use mathlib.Core.List.{List, [], ◌∷◌, ◌++◌}
use mathlib.Core.Option.{some}
use borrow.Author.Tests.{lt-ltb}
use Rattle.order.specs.Bools.{◌and◌}
use Rattle.syntax.specs.Commands.{o_rights, o_end, operands, section_of}
use Rattle.syntax.specs.Loading.{JobTables}
use Rattle.syntax.specs.JobBytes.{bytes_of, operand_bytes, command_bytes}
use Rattle.syntax.specs.Writing.{Counts, Item, item, fits, item_of, name_item, type_item, value_item, cmd_item, each, items, script}
use Rattle.std.specs.Prelude.{Ok}
use Rattle.encode.specs.Laid.{most_scratch, Pushed}
use Rattle.encode.specs.Entries.{limit_of, entry_item, item_in}
use Rattle.encode.specs.Penned.{Pen, Penned, reach_of, fault_in, Sectioned, Encoded}
use Rattle.syntax.proofs.RowsRead.{bytes_length}
use Rattle.encode.proofs.Laying.{pushed_then, pushed_as}
use Rattle.encode.proofs.Pens.{sound_each, penned_as, penned_none, penned_row, penned_stop, penned_then}
use Rattle.encode.proofs.Sections.{sound_in}

module _ (w : JobTables) (c : Counts) (rights : c.rights < 256 ^ 8) where
  -- the tables' entries, as `items` has them
  abbrev last : List Item
  last = item (o_end, []) ∷ []

  abbrev exprs : List Item
  exprs = each (item_in w 4) 0 c.cmds

  abbrev from_rights : List Item
  from_rights = item (o_rights, c.rights ∷ []) ∷ (exprs ++ last)

  abbrev values : List Item
  values = each (item_in w 2) 0 c.values

  abbrev types : List Item
  types = each (item_in w 1) 0 c.types

  abbrev names : List Item
  names = each (item_in w 0) 0 c.names

  rights_item : item_of 3 (some o_rights) (λ op. c.rights ∷ []) ≡ item (o_rights, c.rights ∷ [])
  unfolding item_of fits section_of operands ◌and◌
  rights_item = rw (lt-ltb c.rights (256 ^ 8) rights)

  items_are : names ++ (types ++ (values ++ from_rights)) ≡ items w c
  unfolding items item_in entry_item limit_of name_item type_item value_item cmd_item
  items_are = ap (λ e. names ++ (types ++ (values ++ (e ∷ (exprs ++ last))))) (sym rights_item)

  encoded : {l m : List ℕ} {r : Pen} → Penned l m 0 r (script (names ++ (types ++ (values ++ from_rights)))) → (reach_of r) ≤ most_scratch → Encoded w c l m r
  encoded {l} {m} {r} x h = record { penned = penned_as (ap script items_are) x; room = h }

  rights_bytes : bytes_of 1 0x21 ++ bytes_of 8 c.rights ≡ command_bytes (o_rights, c.rights ∷ [])
  unfolding command_bytes operands operand_bytes bytes_of
  rights_bytes = refl

  end_bytes : bytes_of 1 0xFF ≡ command_bytes (o_end, [])
  unfolding command_bytes operands operand_bytes bytes_of
  end_bytes = refl

  -- after the names
  module _ {l m : List ℕ} {a : Pen} (x : Sectioned (item_in w 0) (limit_of 0) c.names l m 0 a) where
    names_room : (reach_of a) ≤ 868
    unfolding limit_of
    names_room = omega (arith, x.room)

    pub room_types : (reach_of a) + 14 * limit_of 1 ≤ most_scratch
    unfolding limit_of
    room_types = omega (arith, names_room)

    pub stop_names : 0 < fault_in a → Encoded w c l m a
    stop_names h = encoded (penned_stop names _ x.penned h) (omega (arith, names_room))

    -- after the types
    module _ {n : List ℕ} {b : Pen} (no_fault : fault_in a ≤ 0) (y : Sectioned (item_in w 1) (limit_of 1) c.types m n (reach_of a) b) where
      after_names_lem : {k : List ℕ} {q : Pen} → Penned m k (reach_of a) q (script (types ++ (values ++ from_rights))) → Penned l k 0 q (script (names ++ (types ++ (values ++ from_rights))))
      after_names_lem z = penned_then names _ (sound_each (item_in w 0) (sound_in w 0) 0 c.names) x.penned no_fault z

      types_room : (reach_of b) ≤ 4452
      unfolding limit_of
      types_room = omega (arith, names_room, y.room)

      pub room_values : (reach_of b) + 14 * limit_of 2 ≤ most_scratch
      unfolding limit_of
      room_values = omega (arith, types_room)

      pub stop_types : 0 < fault_in b → Encoded w c l n b
      stop_types h = encoded (after_names_lem (penned_stop types _ y.penned h)) (omega (arith, types_room))

      -- after the host values
      module _ {o : List ℕ} {d : Pen} (none_yet : fault_in b ≤ 0) (z : Sectioned (item_in w 2) (limit_of 2) c.values n o (reach_of b) d) where
        after_types_lem : {k : List ℕ} {q : Pen} → Penned n k (reach_of b) q (script (values ++ from_rights)) → Penned l k 0 q (script (names ++ (types ++ (values ++ from_rights))))
        after_types_lem v = after_names_lem (penned_then types _ (sound_each (item_in w 1) (sound_in w 1) 0 c.types) y.penned none_yet v)

        values_room : (reach_of d) ≤ 5348
        unfolding limit_of
        values_room = omega (arith, types_room, z.room)

        pub room_byte : (reach_of d) + 1 ≤ most_scratch
        room_byte = omega (arith, values_room)

        pub stop_values : 0 < fault_in d → Encoded w c l o d
        stop_values h = encoded (after_types_lem (penned_stop values _ z.penned h)) (omega (arith, values_room))

        -- after the rights
        module _ {p : List ℕ} {u : ℕ} (still : fault_in d ≤ 0) (f : Pushed o p (reach_of d) u (bytes_of 1 0x21)) where
          pub room_rights : u + 8 ≤ most_scratch
          room_rights = omega (arith, values_room, f.reach, bytes_length 1 0x21)

          module _ {q : List ℕ} {v : ℕ} (s : Pushed p q u v (bytes_of 8 c.rights)) where
            rights_room : v ≤ 5357
            rights_room = omega (arith, values_room, f.reach, bytes_length 1 0x21, s.reach, bytes_length 8 c.rights)

            pub room_exprs : v + 14 * limit_of 4 ≤ most_scratch
            unfolding limit_of
            room_exprs = omega (arith, rights_room)

            after_rights_lem : {k : List ℕ} {g : Pen} → Penned q k v g (script (exprs ++ last)) → Penned l k 0 g (script (names ++ (types ++ (values ++ from_rights))))
            after_rights_lem h =
                after_types_lem
                (penned_then values _ (sound_each (item_in w 2) (sound_in w 2) 0 c.values) z.penned still
                (penned_row (o_rights, c.rights ∷ []) _ (pushed_as rights_bytes (pushed_then f s)) h))

            -- after the expressions
            module _ {k : List ℕ} {g : Pen} (e : Sectioned (item_in w 4) (limit_of 4) c.cmds q k v g) where
              exprs_room : (reach_of g) ≤ 12525
              unfolding limit_of
              exprs_room = omega (arith, rights_room, e.room)

              pub stop_exprs : 0 < fault_in g → Encoded w c l k g
              stop_exprs h = encoded (after_rights_lem (penned_stop exprs _ e.penned h)) (omega (arith, exprs_room))

              pub room_end : (reach_of g) + 1 ≤ most_scratch
              room_end = omega (arith, exprs_room)

              pub all_encoded : {j : List ℕ} {t : ℕ} → fault_in g ≤ 0 → Pushed k j (reach_of g) t (bytes_of 1 0xFF) → Encoded w c l j (Ok t)
              all_encoded {j} {t} h y =
                  encoded
                  (after_rights_lem (penned_then exprs _ (sound_each (item_in w 4) (sound_in w 4) 0 c.cmds) e.penned h (penned_row (o_end, []) [] (pushed_as end_bytes y) penned_none)))
                  (omega (arith, exprs_room, y.reach, bytes_length 1 0xFF))

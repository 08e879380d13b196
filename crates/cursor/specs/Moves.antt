-- How a place in a text moves: bytes, lines, and tabs in the line.
-- Assumes nothing.
use Rattle.std.specs.Prelude.{◌≡◌, refl, ℕ, ◌+◌}
use Rattle.cursor.specs.declared.Cursor.{Cursor}

-- so many lines further, behind so many tabs of that line
abbrev pub place_past : Cursor → ℕ → ℕ → ℕ → Cursor
place_past c end lines tabs = record { byte = end; line = c.line + lines; field = tabs }

-- one field further in the same line
abbrev pub field_past : Cursor → ℕ → Cursor
field_past c end = record { byte = end; line = c.line; field = c.field + 1 }

-- at the beginning of the next line
abbrev pub line_past : Cursor → ℕ → Cursor
line_past c end = record { byte = end; line = c.line + 1; field = 0 }

-- from byte 4 of line 1, behind one tab, two lines further behind three tabs, at byte 20
place_example
    : place_past (record { byte = 4; line = 1; field = 1 }) 20 2 3 ≡ record { byte = 20; line = 3; field = 3 }
place_example = refl

-- from byte 4 of line 1, behind one tab, past a field that ends at byte 6
field_example
    : field_past (record { byte = 4; line = 1; field = 1 }) 6 ≡ record { byte = 6; line = 1; field = 2 }
field_example = refl

-- and from there past the line feed at byte 6
line_example : line_past (record { byte = 6; line = 1; field = 2 }) 7 ≡ record { byte = 7; line = 2; field = 0 }
line_example = refl

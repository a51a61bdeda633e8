-- The characters and the styles of a drawing: the tables of the three themes.
use Rattle.std.specs.Prelude.{ℕ, List, [], ◌∷◌, ◌++◌, codes}
use Rattle.oxc_handlers.specs.declared.theme.GraphicalTheme.{GraphicalTheme}
use Rattle.oxc_handlers.specs.declared.theme.Style.{Style}
use Rattle.oxc_handlers.specs.declared.theme.Style.TheVariants.{Plain, Error, Warning, Info, Link, LineNumber, Highlight1, Highlight2, Highlight3}
use Rattle.oxc_handlers.specs.declared.theme.ThemeCharacters.{ThemeCharacters}
use Rattle.oxc_handlers.specs.declared.theme.ThemeStyles.{ThemeStyles}

-- ESC and a text
abbrev pub escape : List ℕ → List ℕ
escape text = 0x1B ∷ text

-- what stands before a text in a style
abbrev pub prefix_of : Style → List ℕ
prefix_of Plain = []
prefix_of Error = escape (codes "[38;2;225;80;80;1m")
prefix_of Warning = escape (codes "[38;2;244;191;117;1m")
prefix_of Info = escape (codes "[38;2;106;159;181m")
prefix_of Link = escape (codes "[38;2;92;157;255;1m")
prefix_of LineNumber = escape (codes "[2m")
prefix_of Highlight1 = escape (codes "[38;2;246;87;248m")
prefix_of Highlight2 = escape (codes "[38;2;30;201;212m")
prefix_of Highlight3 = escape (codes "[38;2;145;246;111m")

-- what stands behind it
abbrev pub reset_of : Style → List ℕ
reset_of Plain = []
reset_of _ = escape (codes "[0m")

-- a text in a style
unfoldable pub styled : Style → List ℕ → List ℕ
styled style text = prefix_of style ++ text ++ reset_of style

abbrev pub box_characters : ThemeCharacters
box_characters =
    record {
      hbar = 0x2500;
      vbar = 0x2502;
      vbar_break = 0xB7;
      uarrow = 0x25B2;
      rarrow = 0x25B6;
      ltop = 0x256D;
      lbot = 0x2570;
      lcross = 0x251C;
      rcross = 0x2524;
      underbar = 0x252C;
      underline = 0x2500;
      error = 0xD7;
      warning = 0x26A0;
      advice = 0x261E;
    }

abbrev pub ascii_characters : ThemeCharacters
ascii_characters =
    record {
      hbar = 0x2D;
      vbar = 0x7C;
      vbar_break = 0x3A;
      uarrow = 0x5E;
      rarrow = 0x3E;
      ltop = 0x2C;
      lbot = 0x60;
      lcross = 0x7C;
      rcross = 0x7C;
      underbar = 0x7C;
      underline = 0x5E;
      error = 0x78;
      warning = 0x21;
      advice = 0x3E;
    }

abbrev pub rgb_styles : ThemeStyles
rgb_styles =
    record {
      error = Error;
      warning = Warning;
      advice = Info;
      help = Info;
      note = Info;
      link = Link;
      linum = LineNumber;
      highlights = Highlight1 ∷ Highlight2 ∷ Highlight3 ∷ [];
    }

abbrev pub plain_styles : ThemeStyles
plain_styles =
    record {
      error = Plain;
      warning = Plain;
      advice = Plain;
      help = Plain;
      note = Plain;
      link = Plain;
      linum = Plain;
      highlights = Plain ∷ Plain ∷ Plain ∷ [];
    }

-- box characters and colors
abbrev pub unicode_theme : GraphicalTheme
unicode_theme = record { characters = box_characters; styles = rgb_styles }

-- box characters without colors
abbrev pub unicode_nocolor_theme : GraphicalTheme
unicode_nocolor_theme = record { characters = box_characters; styles = plain_styles }

-- ASCII without colors
abbrev pub none_theme : GraphicalTheme
none_theme = record { characters = ascii_characters; styles = plain_styles }
